-- The start of a run, part by part.
use Rattle.std.proofs.Common.{◌≡◌, ℕ, zero, suc, ◌+◌, ◌<◌, ◌≤◌, ◌⊎◌, inl, inr, List, [], ◌∷◌, length, set, map, Bool, true, false, Option, Some, None, Result, Ok, Err, ok_or, refl, sym, ap, subst, ◌∙◌, arith}
use Rattle.std.specs.Prelude.{slice_get, slice_set, slice_index_or}
use Rattle.std.specs.List.{All}
use Rattle.std.proofs.lemmas.List.{get_or-set_same, get_or-set_other}
use Rattle.std.proofs.lemmas.List.Elements.{All-nil, All-cons, All-head, All-tail}
use Rattle.serde_json.specs.Data.{Data}
use Rattle.tpl_model.specs.declared.ids.SiteId.{SiteId}
use Rattle.tpl_draft.specs.Ids.{site_number}
use Rattle.tpl_draft.specs.Named.{Named}
use Rattle.tpl_cert.specs.Naming.{number_of}
use Rattle.tpl_cert.specs.Written.{name_at}
use Rattle.tpl_cert.proofs.Names.{number_below}
use Rattle.tpl_json.specs.Members.{only_if}
use Rattle.tpl_json.proofs.Arrays.{some_is}
use Rattle.tpl_json.proofs.Json.{some, some_none, only_is}
use Rattle.tpl_parts.specs.Start.{NamedStart}
use Rattle.tpl_reader.specs.declared.fault.StartFault.{StartFault}
use Rattle.tpl_reader.specs.declared.fault.StartFault.TheVariants as faults
use Rattle.tpl_json.specs.Passes.{each_from}
use Rattle.tpl_reader.specs.Begin.{StartValue, knows_members, truth_at, may_all_fail, numbers_in, truths_in, start_in, start_if_any}
use Rattle.tpl_reader.specs.Ends.{knows_ends}
use Rattle.tpl_reader.specs.Document.{begin_in}
use Rattle.tpl_json.proofs.Passes.{bind_ok, bind_or, ok_is, each_empty, each_cons, all_every, later_fails}

abbrev right : StartValue → Result StartValue StartFault
right start = Ok start

abbrev lacking : Result (List Bool) StartFault
lacking = Err faults.Missing

-- ---- the parts of a start

pub record Parts (g : Named) (s : NamedStart) (start : StartValue) : Type 0 where
  pub known : knows_members g.names.inputs s.inputs ≡ true
  pub request : numbers_in g.names.tokens s.request ≡ Ok start.request
  pub fail : numbers_in g.names.sites s.fail ≡ Ok start.fail
  pub inputs : truths_in s.inputs g.names.inputs ≡ Ok start.inputs
  pub may_fail : may_all_fail g.graph start.fail ≡ true

abbrev start_with : List Bool → List ℕ → List ℕ → StartValue
start_with inputs request fail = record { inputs = inputs; request = request; fail = fail }

pub parts_of : (g : Named) (s : NamedStart) (start : StartValue) → start_in g s ≡ Ok start → Parts g s start
unfolding start_in
parts_of g s start e =
    let known = bind_or (only_if (knows_members g.names.inputs s.inputs)) faults.Unknown _ start e in
    let request = bind_ok (numbers_in g.names.tokens s.request) _ start known.2 in
    let fail = bind_ok (numbers_in g.names.sites s.fail) _ start request.2 in
    let inputs = bind_ok (truths_in s.inputs g.names.inputs) _ start fail.2 in
    let may = bind_or (only_if (may_all_fail g.graph fail.0)) faults.FailNot _ start inputs.2 in
    let whole : start_with inputs.0 request.0 fail.0 ≡ start = ok_is _ start _ refl may.2 in
    subst (Parts g s) whole (record { known = only_is _ _ known.1; request = request.1; fail = fail.1; inputs = inputs.1; may_fail = only_is _ _ may.1 })

pub start_of : (g : Named) (s : NamedStart) (start : StartValue) → Parts g s start → start_in g s ≡ Ok start
unfolding start_in
start_of g s start p = rw (p.known, p.request, p.fail, p.inputs, p.may_fail) refl

-- the parts of a start, if there is one
abbrev pub AreParts : Named → Option NamedStart → Option StartValue → Type 0
AreParts g None None = Unit {0}
AreParts g None (Some start) = ⊥
AreParts g (Some s) None = ⊥
AreParts g (Some s) (Some start) = Parts g s start

some_parts : (g : Named) (o : Option NamedStart) (start : Option StartValue) → start_if_any g o ≡ Ok start → AreParts g o start
some_parts g None None e = tt
some_parts g None (Some start) e = absurd cc
some_parts g (Some s) None e =
    let a = bind_ok (start_in g s) _ None e in
    absurd (some_none a.0 (Some a.0) refl (ok_is (Some a.0) None _ refl a.2))
some_parts g (Some s) (Some start) e =
    let a = bind_ok (start_in g s) _ (Some start) e in
    parts_of g s start (a.1 ∙ ap right (some_is a.0 start (ok_is (Some a.0) (Some start) _ refl a.2)))

some_start : (g : Named) (o : Option NamedStart) (start : Option StartValue) → AreParts g o start → start_if_any g o ≡ Ok start
some_start g None None p = refl
some_start g None (Some start) p = absurd p
some_start g (Some s) None p = absurd p
some_start g (Some s) (Some start) p = rw (start_of g s start p) refl

pub begin_parts : (g : Named) (o : Option NamedStart) (ended : Option Data) (start : Option StartValue) → begin_in g o ended ≡ Ok start → (knows_ends g.names.tasks ended ≡ true) × AreParts g o start
unfolding begin_in
begin_parts g o ended start e =
    let known = bind_or (only_if (knows_ends g.names.tasks ended)) faults.Unknown _ start e in
    (only_is _ _ known.1, some_parts g o start known.2)

pub begin_of : (g : Named) (o : Option NamedStart) (ended : Option Data) (start : Option StartValue) → knows_ends g.names.tasks ended ≡ true → AreParts g o start → begin_in g o ended ≡ Ok start
unfolding begin_in
begin_of g o ended start known p = rw known (some_start g o start p)

-- the numbers of names are below their count
pub numbers_below : (names texts : List (List ℕ)) (ns : List ℕ) → numbers_in names texts ≡ Ok ns → All (λ n. n < length names) ns
numbers_below names texts ns e = all_every faults.Unknown (number_of names) (λ n. n < length names) (number_below names) texts ns e

sites_of : (n : ℕ) (sites : List SiteId) → All (λ k. k < n) (map site_number sites) → All (λ (s : SiteId). s.0 < n) sites
sites_of n [] all = All-nil (λ (s : SiteId). s.0 < n)
sites_of n (s ∷ sites) all = All-cons (λ (s : SiteId). s.0 < n) s sites (All-head (λ k. k < n) s.0 (map site_number sites) all) (sites_of n sites (All-tail (λ k. k < n) s.0 (map site_number sites) all))

pub sites_below : (names texts : List (List ℕ)) (sites : List SiteId) → numbers_in names texts ≡ Ok (map site_number sites) → All (λ (s : SiteId). s.0 < length names) sites
sites_below names texts sites e = sites_of (length names) sites (numbers_below names texts (map site_number sites) e)

-- ---- the values of the inputs so far

pub record TruthsTo (names : List (List ℕ)) (d : Option Data) (values : List Bool) (n : ℕ) : Type 0 where
  pub count : length values ≡ length names
  pub each : (i : ℕ) → i < n → truth_at d (name_at names i) ≡ Some (slice_index_or values i false)

pub truths_none : (names : List (List ℕ)) (d : Option Data) (values : List Bool) → length values ≡ length names → TruthsTo names d values 0
truths_none names d values e = record { count = e; each = λ i lt. absurd (omega arith) }

length-set : (values : List Bool) (n : ℕ) (b : Bool) → length (set values n b) ≡ length values
length-set [] n b = refl
length-set (x ∷ xs) zero b = refl
length-set (x ∷ xs) (suc n) b = ap suc (length-set xs n b)

here_or_before : (i n : ℕ) → i < n + 1 → (i ≡ n) ⊎ (i < n)
here_or_before zero zero lt = inl refl
here_or_before (suc i) zero lt = absurd (omega arith)
here_or_before zero (suc n) lt = inr (omega arith)
here_or_before (suc i) (suc n) lt = elim (here_or_before i n (omega arith)) [ inl e ↦ inl (ap suc e) | inr l ↦ inr (omega arith) ]

pub truths_more : (names : List (List ℕ)) (d : Option Data) (values : List Bool) (n : ℕ) (b : Bool) → n < length names → TruthsTo names d values n → truth_at d (name_at names n) ≡ Some b → TruthsTo names d (slice_set values n b) (n + 1)
truths_more names d values n b lt so_far h = record {
  count = length-set values n b ∙ so_far.count;
  each = λ i less. elim (here_or_before i n less) [
    | inl same ↦ rw same (h ∙ ap (λ (x : Bool). some x) (sym (get_or-set_same values n b false (omega (arith, so_far.count)))))
    | inr before ↦ so_far.each i before ∙ ap (λ (x : Bool). some x) (sym (get_or-set_other values n i b false (omega arith)))
  ];
}

each_truth : (d : Option Data) (names : List (List ℕ)) (values : List Bool) (k : ℕ) → length values ≡ length names → ((i : ℕ) → i < length names → truth_at d (name_at names i) ≡ Some (slice_index_or values i false)) → each_from (λ n name. ok_or (truth_at d name) faults.Missing) k names ≡ Ok values
each_truth d [] [] k e h = each_empty (λ n name. ok_or (truth_at d name) faults.Missing) k
each_truth d [] (b ∷ values) k e h = absurd (omega arith)
each_truth d (name ∷ names) [] k e h = absurd (omega arith)
each_truth d (name ∷ names) (b ∷ values) k e h =
    each_cons (λ n name. ok_or (truth_at d name) faults.Missing) k name names b values (rw (h 0 (omega arith)) refl) (each_truth d names values (k + 1) (omega arith) (λ i lt. h (suc i) (omega arith)))

-- a value for each input
pub truths_are : (d : Option Data) (names : List (List ℕ)) (values : List Bool) → length values ≡ length names → ((i : ℕ) → i < length names → truth_at d (name_at names i) ≡ Some (slice_index_or values i false)) → truths_in d names ≡ Ok values
truths_are d names values e h = each_truth d names values 1 e h

pub truths_all : (names : List (List ℕ)) (d : Option Data) (values : List Bool) (n : ℕ) → length names ≤ n → TruthsTo names d values n → truths_in d names ≡ Ok values
truths_all names d values n le so_far = truths_are d names values so_far.count (λ i lt. so_far.each i (omega arith))

missing : (d : Option Data) (names : List (List ℕ)) (i : ℕ) (name : List ℕ) (k : ℕ) → slice_get names i ≡ Some name → truth_at d name ≡ None → each_from (λ n name. ok_or (truth_at d name) faults.Missing) k names ≡ lacking
unfolding each_from
missing d [] i name k at none = absurd cc
missing d (n ∷ names) zero name k at none = rw (some_is n name at, none) refl
missing d (n ∷ names) (suc i) name k at none = later_fails faults.Missing (truth_at d) k n names (missing d names i name (k + 1) at none)

-- the exit at an input without value
pub lacks_truth : (d : Option Data) (names : List (List ℕ)) (i : ℕ) (name : List ℕ) → slice_get names i ≡ Some name → truth_at d name ≡ None → truths_in d names ≡ lacking
lacks_truth d names i name at none = missing d names i name 1 at none

-- ---- whether a job may fail

pub fails : (bs : List Bool) (i : ℕ) (b : Bool) → slice_get bs i ≡ Some b → slice_index_or bs i false ≡ b
fails [] i b e = absurd cc
fails (x ∷ bs) zero b e = some_is x b e
fails (x ∷ bs) (suc i) b e = fails bs i b e
