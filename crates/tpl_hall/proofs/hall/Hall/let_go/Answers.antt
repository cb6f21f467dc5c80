use Rattle.tpl_hall.proofs.hall.Hall.let_go.Goals as goal

pub returns-then-not-fits-clause-left : goal.returns-then-not-fits-clause-left
returns-then-not-fits-clause-left g c = λ first stays goes. c.stray.ensures.left first stays c.args.graph.now.graph c.args.inputs.now
