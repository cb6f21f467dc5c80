use Rattle.tpl_cli.proofs.refute.Goals as goal

pub returns : goal.returns
returns g c =
    let is = c.refute_document.ensures in
    record { responds = is.responds; reads = is.reads; fails = is.fails; refuted = is.refuted; unrefuted = is.unrefuted }
