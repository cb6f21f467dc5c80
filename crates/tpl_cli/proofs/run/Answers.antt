use Rattle.std.proofs.Common.{List, ℕ, inl, inr, subst, sym}
use Rattle.tpl_reader.specs.Document.{Spells}
use Rattle.tpl_reader.specs.SeenDocument.{doc_of}
use Rattle.tpl_cli.proofs.run.Goals as goal

pub returns-in-Ok : goal.returns-in-Ok
returns-in-Ok g c =
    let loads = c.in-Ok.ensures.document in
    let doc = doc_of c.in-Ok.field-0.document in
    record {
      runs = inl (record {
        doc = doc;
        loads = loads.0;
        telling = c.telling_of-telling.result;
        asked = c.telling_of-telling.ensures.asked;
        told = c.telling_of-telling.ensures.told doc (subst (λ (bytes : List ℕ). Spells bytes doc) (sym c.deref.ensures.value) c.in-Ok.ensures.spelled);
        serves = rw loads.1 at c.run_document-exit.ensures;
      });
      reads = c.load_watched.ensures.reads;
    }

pub returns-in-Err : goal.returns-in-Err
returns-in-Err g c = record { runs = inr c.in-Err.ensures.err; reads = c.load_watched.ensures.reads }
