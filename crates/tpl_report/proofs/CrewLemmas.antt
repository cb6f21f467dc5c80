-- The seats of a run, from the first request to its end.
use Rattle.std.proofs.Common.{◌≡◌, ◌∙◌, ◌++◌, ℕ, Bool, true, List, ap, map, subst}
use Rattle.std.specs.Prelude.{reverse}
use Rattle.std.specs.List.{All}
use Rattle.std.proofs.lemmas.List.Elements.{All-weaker}
use Rattle.tpl_model.specs.declared.event.Event.{Event}
use Rattle.tpl_model.specs.Facts.{requested}
use Rattle.tpl_model.specs.Graph.{TaskGraph}
use Rattle.tpl_hall.specs.Closes.{AllOwn, AllLast}
use Rattle.tpl_hall.specs.Lists.{all_seated}
use Rattle.tpl_hall.specs.Views.{SeatView}
use Rattle.tpl_hall.specs.declared.sight.Ended.{Ended}
use Rattle.tpl_runtime.specs.Workers.{workers as first_workers, HasWorked}
use Rattle.tpl_report.specs.Made.{HasAsked, HaveAsked, HaveRun, IsMadeBy}
use Rattle.tpl_report.proofs.AskLemmas.{asked_in_run}

pub have_run : (g : TaskGraph) (v : List Bool) (n : ℕ) (tokens : List ℕ) (seats all : List SeatView) (done : List (SeatView × Ended)) → HaveAsked g tokens seats
    → map (λ d. d.0.actor) done ≡ first_workers n → All (λ d. HasWorked g v d.0 d.1) done → all ≡ seats ++ map (λ d. d.0) done → HaveRun g v n tokens all
have_run g v n tokens seats all done first workers worked is = record {
  seat = first.seat;
  done = done;
  all = is ∙ ap (λ l. l ++ map (λ d. d.0) done) first.alone;
  actor = first.actor;
  asked = first.asked;
  workers = workers;
  worked = worked;
}

pub made_by : (g : TaskGraph) (v : List Bool) (n : ℕ) (tokens : List ℕ) (seats : List SeatView) (journal : List Event) → HaveRun g v n tokens seats → AllOwn seats journal
    → AllLast g v seats journal → all_seated journal (map (λ s. s.actor) seats) ≡ true → IsMadeBy g v n tokens journal
made_by g v n tokens seats journal run own last seated =
    let mine = subst (λ l. AllOwn l journal) run.all own in
    record {
      seat = run.seat;
      done = run.done;
      actor = run.actor;
      workers = run.workers;
      worked = run.worked;
      own = mine;
      last = subst (λ l. AllLast g v l journal) run.all last;
      alone = subst (λ (l : List SeatView). all_seated journal (map (λ s. s.actor) l) ≡ true) run.all seated;
      requested = All-weaker (HasAsked g run.seat.mine) (λ k. requested g v (reverse journal) k ≡ true)
          (λ k e. asked_in_run g v run.seat.actor run.seat.mine journal k mine.0 e) tokens run.asked;
    }
