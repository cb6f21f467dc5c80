use Rattle.serde_json.specs.View.{view}
use Rattle.tpl_reader.specs.SeenDocument.{doc_of}
use Rattle.tpl_verify.proofs.Filling.{form_of}
use Rattle.tpl_verify.proofs.Unseen.{form_unseen, depth_unseen}
use Rattle.tpl_verify.proofs.text.value_of.Goals as goal

pub without_seen-requires : goal.without_seen-requires
without_seen-requires c = form_of c.args.bytes.now (doc_of c.args.document.now) (view c.in_ok-value.value) c.requires c.in_ok-value.ensures.reads

pub returns-clause-reads : goal.returns-clause-reads
returns-clause-reads c = (view c.in_ok-value.value, c.in_ok-value.ensures.reads, c.without_seen.ensures)

pub returns-clause-form : goal.returns-clause-form
returns-clause-form c = form_unseen (view c.in_ok-value.value) (view c.without_seen.result) (form_of c.args.bytes.now (doc_of c.args.document.now) (view c.in_ok-value.value) c.requires c.in_ok-value.ensures.reads) c.without_seen.ensures

pub returns-clause-nests : goal.returns-clause-nests
returns-clause-nests c = depth_unseen (view c.in_ok-value.value) (view c.without_seen.result) c.in_ok-value.ensures.nests c.without_seen.ensures
