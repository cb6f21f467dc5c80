-- The start with other inputs is read as that.
use Rattle.std.proofs.Common.{◌≡◌, ℕ, ◌-◌, ◌≤◌, List, [], ◌∷◌, Bool, true, Option, Some, None, Ok, ok_or, length, codes, option_and_then, refl, sym, ap, subst, ◌∙◌, arith}
use Rattle.serde_json.specs.Data.{Data, Members, no_members, object, put, depth}
use Rattle.serde_json.specs.Find.{get, as_str, as_bool}
use Rattle.serde_json.proofs.Views.{get_member-put}
use Rattle.tpl_draft.specs.Named.{Named}
use Rattle.tpl_json.specs.Members.{◌>>=◌, only_if, has_only, list_or_none, each, texts_in}
use Rattle.tpl_json.proofs.Arrays.{bind_some, some_is}
use Rattle.tpl_json.proofs.Json.{only_is}
use Rattle.tpl_cert.specs.Naming.{number_of}
use Rattle.tpl_parts.specs.Start.{NamedStart, all_values, has_truths, truths_or_none, start_at, start_or_none}
use Rattle.tpl_parts.proofs.Ends.{is_truth}
use Rattle.tpl_reader.specs.declared.fault.StartFault.TheVariants.{Unknown}
use Rattle.tpl_reader.specs.Begin.{StartValue, knows_members, truth_at, truths_in}
use Rattle.tpl_json.proofs.Passes.{each_empty}
use Rattle.tpl_reader.proofs.Begins as begin
use Rattle.tpl_reader.proofs.Begins.{AreParts, truths_are}
use Rattle.tpl_verify.specs.Filled.{AreFirst, IsStartWith, start_data, started}
use Rattle.tpl_json.proofs.Puts.{only_put, is_object, other, depth_put}

-- ---- with names

-- the start that is spelled, with these inputs
abbrev pub named_with : Data → Option NamedStart → NamedStart
named_with inputs None = record { inputs = Some inputs; request = []; fail = [] }
named_with inputs (Some s) = record s { inputs = Some inputs }

abbrev names_in_start : List (List ℕ)
names_in_start = codes "inputs" ∷ codes "request" ∷ codes "fail" ∷ []

pub record Parts (d : Data) (s : NamedStart) : Type 0 where
  pub only : has_only names_in_start d ≡ true
  pub inputs : truths_or_none (get (codes "inputs") d) ≡ Some s.inputs
  pub request : texts_in (codes "request") d ≡ Some s.request
  pub fail : texts_in (codes "fail") d ≡ Some s.fail

parts_of : (d : Data) (s : NamedStart) → start_at d ≡ Some s → Parts d s
unfolding start_at
parts_of d s e =
    let only = bind_some (only_if (has_only names_in_start d)) _ s e in
    let inputs = bind_some (truths_or_none (get (codes "inputs") d)) _ s only.2 in
    let request = bind_some (texts_in (codes "request") d) _ s inputs.2 in
    let fail = bind_some (texts_in (codes "fail") d) _ s request.2 in
    let whole : record { inputs = inputs.0; request = request.0; fail = fail.0 } ≡ s = some_is _ s fail.2 in
    subst (λ (x : NamedStart). Parts d x) whole (record { only = only_is _ _ only.1; inputs = inputs.1; request = request.1; fail = fail.1 })

start_of : (d : Data) (s : NamedStart) → Parts d s → start_at d ≡ Some s
unfolding start_at
start_of d s p = rw (p.only, p.inputs, p.request, p.fail) refl

same_texts : (name : List ℕ) (d e : Data) (texts : List (List ℕ)) → get name d ≡ get name e → texts_in name d ≡ Some texts → texts_in name e ≡ Some texts
unfolding texts_in
same_texts name d e texts same p = subst (λ (o : Option Data). (list_or_none o >>= each as_str) ≡ Some texts) same p

module _ (members inputs : Members) (truths : all_values is_truth inputs ≡ true) where
  abbrev with_inputs : Data
  with_inputs = object (put (codes "inputs") (object inputs) members)

  are_truths : truths_or_none (Some (object inputs)) ≡ Some (Some (object inputs))
  unfolding truths_or_none has_truths
  are_truths = rw truths refl

  put_start : (s : NamedStart) → start_at (object members) ≡ Some s → start_at with_inputs ≡ Some (record s { inputs = Some (object inputs) })
  put_start s is =
      let p = parts_of (object members) s is in
      start_of with_inputs (record s { inputs = Some (object inputs) }) (record {
        only = only_put names_in_start (codes "inputs") (object inputs) members refl p.only;
        inputs = ap truths_or_none (get_member-put (codes "inputs") (object inputs) members) ∙ are_truths;
        request = same_texts (codes "request") (object members) with_inputs s.request (other (codes "request") (codes "inputs") (object inputs) members refl) p.request;
        fail = same_texts (codes "fail") (object members) with_inputs s.fail (other (codes "fail") (codes "inputs") (object inputs) members refl) p.fail;
      })

no_start : start_at (object no_members) ≡ Some (record { inputs = None; request = []; fail = [] })
unfolding start_at has_only truths_or_none texts_in list_or_none each
no_start = refl

-- a start that is there
start_there : (d : Data) (s : Option NamedStart) → start_or_none (Some d) ≡ Some s → (x : NamedStart) × (Some x ≡ s) × (start_at d ≡ Some x)
unfolding start_or_none
start_there d s e =
    let a = bind_some (start_at d) _ s e in
    (a.0, some_is (Some a.0) s a.2, a.1)

start_missing : (s : Option NamedStart) → start_or_none None ≡ Some s → None ≡ s
unfolding start_or_none
start_missing s e = some_is None s e

start_given : (d : Data) (x : NamedStart) → start_at d ≡ Some x → start_or_none (Some d) ≡ Some (Some x)
unfolding start_or_none
start_given d x e = rw e refl

-- the start that stands in a document is an object
pub start_object : (old : Option Data) (s : Option NamedStart) → start_or_none old ≡ Some s → (ms : Members) × (start_data old ≡ object ms)
start_object None s is = (no_members, refl)
start_object (Some d) s is =
    let there = start_there d s is in
    is_object names_in_start d (parts_of d there.0 there.2).only

pub named_start : (names : List (List ℕ)) (values : List Bool) (old : Option Data) (s : Option NamedStart) (new : Data) → start_or_none old ≡ Some s → (with : IsStartWith names values old new)
    → start_or_none (Some new) ≡ Some (Some (named_with (object with.inputs) s))
named_start names values None s new is with =
    start_given new (named_with (object with.inputs) s)
    (subst (λ (o : Option NamedStart). start_at new ≡ Some (named_with (object with.inputs) o)) (start_missing s is)
    (subst (λ (d : Data). start_at d ≡ Some (named_with (object with.inputs) None)) (sym with.new_is)
    (put_start with.members with.inputs with.all.truths (record { inputs = None; request = []; fail = [] })
    (subst (λ (d : Data). start_at d ≡ Some (record { inputs = None; request = []; fail = [] })) with.old_is no_start))))
named_start names values (Some d) s new is with =
    let there = start_there d s is in
    start_given new (named_with (object with.inputs) s)
    (subst (λ (o : Option NamedStart). start_at new ≡ Some (named_with (object with.inputs) o)) there.1
    (subst (λ (e : Data). start_at e ≡ Some (named_with (object with.inputs) (Some there.0))) (sym with.new_is)
    (put_start with.members with.inputs with.all.truths there.0 (subst (λ (e : Data). start_at e ≡ Some there.0) with.old_is there.2))))

-- ---- with ids

known_inputs : (names : List (List ℕ)) (values : List Bool) (ms : Members) → AreFirst names values (length names) ms → knows_members names (Some (object ms)) ≡ true
unfolding knows_members
known_inputs names values ms all = all.declared

given_truths : (names : List (List ℕ)) (values : List Bool) (ms : Members) → length values ≡ length names → AreFirst names values (length names) ms → truths_in (Some (object ms)) names ≡ Ok values
unfolding truth_at
given_truths names values ms count all = truths_are (Some (object ms)) names values count (λ i lt. ap (option_and_then as_bool) (all.each i lt))

pub start_value : (g : Named) (values : List Bool) (ms : Members) (s : Option NamedStart) (start : Option StartValue) → length values ≡ length g.names.inputs → AreFirst g.names.inputs values (length g.names.inputs) ms
    → AreParts g s start → begin.Parts g (named_with (object ms) s) (started start values)
start_value g values ms None None count all is = record {
  known = known_inputs g.names.inputs values ms all;
  request = each_empty (λ n name. ok_or (number_of g.names.tokens name) Unknown) 1;
  fail = each_empty (λ n name. ok_or (number_of g.names.sites name) Unknown) 1;
  inputs = given_truths g.names.inputs values ms count all;
  may_fail = refl;
}
start_value g values ms None (Some start) count all is = absurd is
start_value g values ms (Some s) None count all is = absurd is
start_value g values ms (Some s) (Some start) count all is = record {
  known = known_inputs g.names.inputs values ms all;
  request = is.request;
  fail = is.fail;
  inputs = given_truths g.names.inputs values ms count all;
  may_fail = is.may_fail;
}

-- ---- how deep it nests

pub start_depth : (names : List (List ℕ)) (values : List Bool) (old : Option Data) (new : Data) (n : ℕ) → 2 ≤ n → depth (start_data old) ≤ n → IsStartWith names values old new → depth new ≤ n
start_depth names values old new n two le with =
    let flat = with.all.flat in
    let old_le : depth (object with.members) ≤ n = subst (λ (d : Data). depth d ≤ n) with.old_is le in
    let put_le = depth_put (codes "inputs") (object with.inputs) with.members (n - 1) (omega arith) (omega arith) in
    subst (λ (d : Data). depth d ≤ n) (sym with.new_is) (omega arith)
