use Rattle.std.proofs.Common.{◌∙◌, append_assoc, refl}
use Rattle.tpl_cert.proofs.text.+write_tree.Goals as goal

pub returns-in_ok-end_object-in-SplitEnd : goal.returns-in_ok-end_object-in-SplitEnd
returns-in_ok-end_object-in-SplitEnd t c =
    let name = c.in_ok-name-in-SplitEnd.ensures.writes in
    let canceled = rw c.deref-in-SplitEnd.ensures at c.in_ok-write_tree-in-SplitEnd.ensures in
    let faulted = rw c.deref-in-SplitEnd-2.ensures at c.in_ok-write_tree-in-SplitEnd-2.ensures in
    let ran = rw c.deref-in-SplitEnd-3.ensures at c.in_ok-write_tree-in-SplitEnd-3.ensures in
    let last = rw name.1 at c.in_ok-write_text-in-SplitEnd.ensures in
    rw (c.node.ensures, c.in-SplitEnd.is) (
      rw (name.0, ran.0, canceled.0, faulted.0) refl,
      (
        (
          c.end_object-in-SplitEnd.ensures.room.0 ∙ last.0 ∙ ran.1.0.0 ∙ c.key-in-SplitEnd-2.ensures.room.0 ∙ faulted.1.0.0 ∙ c.key-in-SplitEnd.ensures.room.0 ∙ canceled.1.0.0 ∙ c.in_ok-open_object-in-SplitEnd.ensures.0,
          rw (c.in_ok-end_object-in-SplitEnd.ensures.ok, last.1, ran.1.0.1, c.in_ok-key-in-SplitEnd-2.ensures.ok, faulted.1.0.1, c.in_ok-key-in-SplitEnd.ensures.ok, canceled.1.0.1, c.in_ok-open_object-in-SplitEnd.ensures.1) (simp append_assoc),
        ),
        (ran.1.1, canceled.1.1, faulted.1.1),
      ),
    )

pub returns-in_ok-end_object-in-SplitWinner : goal.returns-in_ok-end_object-in-SplitWinner
returns-in_ok-end_object-in-SplitWinner t c =
    let name = c.in_ok-name-in-SplitWinner.ensures.writes in
    let other = c.in_ok-other-in-SplitWinner.ensures.writes in
    let second = rw c.deref-in-SplitWinner.ensures at c.in_ok-write_tree-in-SplitWinner.ensures in
    let winner = rw name.1 at c.in_ok-write_text-in-SplitWinner.ensures in
    let task = rw other.1 at c.in_ok-write_text-in-SplitWinner-2.ensures in
    let first = rw c.deref-in-SplitWinner-2.ensures at c.in_ok-write_tree-in-SplitWinner-2.ensures in
    rw (c.node.ensures, c.in-SplitWinner.is) (
      rw (name.0, other.0, first.0, second.0) refl,
      (
        (
          c.end_object-in-SplitWinner.ensures.room.0 ∙ first.1.0.0 ∙ c.key-in-SplitWinner.ensures.room.0 ∙ task.0 ∙ winner.0 ∙ second.1.0.0 ∙ c.in_ok-open_object-in-SplitWinner.ensures.0,
          rw (c.in_ok-end_object-in-SplitWinner.ensures.ok, first.1.0.1, c.in_ok-key-in-SplitWinner.ensures.ok, task.1, winner.1, second.1.0.1, c.in_ok-open_object-in-SplitWinner.ensures.1) (simp append_assoc),
        ),
        (first.1.1, second.1.1),
      ),
    )
