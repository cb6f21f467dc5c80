use Rattle.tpl_cli.proofs.trace.Goals as goal

pub returns : goal.returns
returns g c =
    let is = c.trace_document.ensures in
    record { responds = is.responds; reads = is.reads; traced = is.traced }
