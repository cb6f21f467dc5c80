use Rattle.tpl_series.proofs.ToldLemmas.{halted, lost, told_more}
use Rattle.tpl_series.proofs.telling.tell_more.Goals.{in-Ok-push, in-Err-push}
use Rattle.tpl_series.proofs.telling.tell_more.Goals as goal

pub returns-after-push-clause-told : goal.returns-after-push-clause-told
returns-after-push-clause-told g c start so_far =
    elim c.match-push.branch [
      | in-Ok-push w ↦
          rw w.result-is
          (told_more (g.T.Tell.tells c.args.telling.now) g.T.Tell.keep g.W.Write.contents start c.args.to.now c.tell_next.new.to c.args.kept.now.items c.push.new.self.items c.in-Ok.one c.args.place c.requires.place
          (rw w.in-Ok-push.is at c.push.ensures.items) c.in-Ok.ensures so_far)
      | in-Err-push w ↦
          rw w.result-is
          (lost (g.T.Tell.tells c.args.telling.now) g.T.Tell.keep g.W.Write.contents start c.args.to.now c.tell_next.new.to c.args.kept.now.items c.in-Ok.one c.args.place c.requires.place c.in-Ok.ensures so_far)
    ]

pub returns-in-Err-clause-told : goal.returns-in-Err-clause-told
returns-in-Err-clause-told g c start so_far =
    halted (g.T.Tell.tells c.args.telling.now) g.T.Tell.keep g.W.Write.contents start c.args.to.now c.tell_next.new.to c.args.kept.now.items c.args.place c.in-Err.stop c.requires.place c.in-Err.ensures so_far
