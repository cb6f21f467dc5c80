use Rattle.tpl_laws.proofs.closed.path_laws.Goals as goal

pub returns : goal.returns
returns c = record { may = c.may_is_right.ensures; may_start = c.may_start_is_right.ensures; must_observe = c.must_observe_is_right.ensures }
