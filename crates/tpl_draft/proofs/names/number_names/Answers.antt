use Rattle.std.proofs.Common.{arith, map, length, ◌≤◌}
use Rattle.std.proofs.lemmas.List.{length-map}
use Rattle.std.specs.Prelude.{string_bytes}
use Rattle.tpl_draft.proofs.NamesLemmas.{map_here}
use Rattle.tpl_draft.proofs.TwiceLemmas.{none_numbered, one_more, is_twice, first_twice, all_numbered, none_twice}
use Rattle.tpl_draft.proofs.names.number_names.Goals as goal

pub loop-i-init : goal.loop-i-init
loop-i-init c = none_numbered (map string_bytes c.args.names.now) c.new-numbered.result c.new-numbered.ensures

pub loop-i-preserved : goal.loop-i-preserved
loop-i-preserved c =
    one_more (map string_bytes c.args.names.now) c.loop-i.numbered c.add_copy.new.names c.loop-i.i (string_bytes c.index-names-i.result) c.in_ok-add_copy.field-0 c.loop-i.invariant
    (map_here string_bytes c.args.names.now c.loop-i.i c.index-names-i.result c.loop-i-test.true c.index-names-i.is)
    c.in_ok-add_copy.ensures.fresh c.in_ok-add_copy.ensures.ok c.if-not-branch.false

pub returns-then-not-branch-clause-fault : goal.returns-then-not-branch-clause-fault
returns-then-not-branch-clause-fault c =
    first_twice (map string_bytes c.args.names.now) c.loop-i.numbered c.loop-i.i (string_bytes c.index-names-i.result) c.in_ok-add_copy.field-0 c.loop-i.invariant
    (map_here string_bytes c.args.names.now c.loop-i.i c.index-names-i.result c.loop-i-test.true c.index-names-i.is)
    c.in_ok-add_copy.ensures.fresh c.if-not-branch.true

pub returns-then-not-branch-clause-twice : goal.returns-then-not-branch-clause-twice
returns-then-not-branch-clause-twice c =
    is_twice (map string_bytes c.args.names.now) c.loop-i.numbered c.loop-i.i (string_bytes c.index-names-i.result) c.in_ok-add_copy.field-0 c.loop-i.invariant
    (map_here string_bytes c.args.names.now c.loop-i.i c.index-names-i.result c.loop-i-test.true c.index-names-i.is)
    c.in_ok-add_copy.ensures.fresh c.if-not-branch.true

pub returns-clause-ok : goal.returns-clause-ok
returns-clause-ok c =
    let all : length (map string_bytes c.args.names.now) ≤ c.loop-i.i = omega (arith, length-map c.args.names.now string_bytes) in
    all_numbered (map string_bytes c.args.names.now) c.loop-i.numbered c.loop-i.i all c.loop-i.invariant

pub returns-clause-distinct : goal.returns-clause-distinct
returns-clause-distinct c =
    λ j lt. c.loop-i.invariant.so_far.fresh j (let le = c.loop-i-test.false in omega arith)

pub returns-clause-none : goal.returns-clause-none
returns-clause-none c =
    let all : length (map string_bytes c.args.names.now) ≤ c.loop-i.i = omega (arith, length-map c.args.names.now string_bytes) in
    none_twice (map string_bytes c.args.names.now) c.loop-i.numbered c.loop-i.i all c.loop-i.invariant
