use Rattle.tpl_cli.proofs.verify_one.Goals as goal

pub returns : goal.returns
returns g c =
    let is = c.verify_document.ensures in
    record { streams = is.streams; reads = is.reads; judged = is.judged; verified = is.verified }
