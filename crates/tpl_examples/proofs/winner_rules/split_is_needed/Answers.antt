use Rattle.tpl_examples.proofs.WinnerNeeded.{accepted, needed}
use Rattle.tpl_examples.proofs.winner_rules.split_is_needed.Goals as goal

pub returns : goal.returns
returns c = (accepted c.token_verdict_is_right.ensures, needed)
