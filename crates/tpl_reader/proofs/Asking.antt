-- A claim whose names are looked up.
use Rattle.std.proofs.Common.{◌≡◌, ◌+◌, ◌-◌, ◌<◌, ◌≤◌, ◌||◌, ℕ, zero, suc, List, [], ◌∷◌, ◌++◌, length, map, take, Bool, true, false, not, cond, Option, Some, None, option_map, Result, Ok, Err, IfOk, refl, sym, ap, ◌∙◌, subst, append-nil, append_assoc, arith}
use Rattle.std.specs.Prelude.{filter}
use Rattle.std.specs.List.{All, list_any}
use Rattle.std.proofs.lemmas.Bool.{or_parts, not-true, le-leb, lt-leb}
use Rattle.std.proofs.lemmas.List.{take-map}
use Rattle.std.proofs.lemmas.List.Elements.{All-push}
use Rattle.tpl_model.specs.declared.ids.SiteId.{SiteId}
use Rattle.tpl_model.specs.Valid.{all_sites}
use Rattle.tpl_graph.proofs.ReaderLemmas.{length-numbers_from}
use Rattle.tpl_model.specs.declared.ids.TaskId.{TaskId}
use Rattle.tpl_model.specs.declared.ids.TokenId.{TokenId}
use Rattle.tpl_model.specs.declared.ids.InputId.{InputId}
use Rattle.tpl_json.specs.Members.{only_if}
use Rattle.tpl_json.specs.declared.miss.Miss.{Miss}
use Rattle.tpl_json.proofs.Arrays.{some_is}
use Rattle.tpl_json.proofs.Json.{some, only_is}
use Rattle.tpl_cert.proofs.Names.{number_below}
use Rattle.tpl_cert.specs.Naming.{number_of}
use Rattle.tpl_graph.specs.Kept.{IsNamedGraph}
use Rattle.tpl_model.specs.declared.claim.Given.TheVariants as givens
use Rattle.tpl_model.specs.declared.claim.Property.{Property}
use Rattle.tpl_model.specs.declared.claim.Given.{Given}
use Rattle.tpl_model.specs.Claims.{Claim}
use Rattle.tpl_model.specs.Graph.{is_task}
use Rattle.tpl_model.proofs.ClaimLemmas.{try_map_all}
use Rattle.tpl_draft.specs.Named.{Names, Named}
use Rattle.tpl_graph.specs.Fits.{IsGivenOf, TasksOf, have_bodies, is_of_one_thing, given_again, given_twice, Fits}
use Rattle.tpl_parts.specs.declared.version.Version.{Version}
use Rattle.tpl_parts.specs.NamedClaims.{NamedGiven, GivenInput, GivenQuiet, GivenEnded, GivenSucceeds, GivenNoFailure, GivenNoRequest, NamedClaim}
use Rattle.tpl_reader.specs.declared.fault.ClaimFault.{ClaimFault}
use Rattle.tpl_reader.specs.declared.fault.ClaimFault.TheVariants as faults
use Rattle.tpl_json.specs.Passes.{Yields, at_number}
use Rattle.tpl_json.proofs.Passes.{bind_ok, bind_or, ok_is, each_every, all_every}
use Rattle.tpl_reader.specs.Asked.{task_in, token_in, input_in, site_in, given_in, property_in, is_no_failure, is_no_request, is_single, with_one, with_jobs, with_tokens, with_all_jobs, with_all, singles_in, says_twice, claim_in, has_name_of, claim_behind, claim_among, claims_in, most_claims, claims_for}

-- ---- the ids that the names stand for are the graph's

mapped : {A B : Type 0} (f : A → B) (o : Option A) (y : B) → option_map f o ≡ Some y → (x : A) × (o ≡ Some x) × (f x ≡ y)
mapped f None y e = absurd cc
mapped f (Some x) y e = (x, refl, some_is (f x) y e)

task_below : (n : Names) (name : List ℕ) (t : TaskId) → task_in n name ≡ Some t → t.0 < length n.tasks
task_below n name t e =
    let a = mapped (λ k. let x : TaskId = record { 0 = k } in x) (number_of n.tasks name) t e in
    number_below n.tasks name t.0 (a.1 ∙ ap (λ (x : TaskId). some x.0) a.2)

token_below : (n : Names) (name : List ℕ) (t : TokenId) → token_in n name ≡ Some t → t.0 < length n.tokens
token_below n name t e =
    let a = mapped (λ k. let x : TokenId = record { 0 = k } in x) (number_of n.tokens name) t e in
    number_below n.tokens name t.0 (a.1 ∙ ap (λ (x : TokenId). some x.0) a.2)

input_below : (n : Names) (name : List ℕ) (t : InputId) → input_in n name ≡ Some t → t.0 < length n.inputs
input_below n name t e =
    let a = mapped (λ k. let x : InputId = record { 0 = k } in x) (number_of n.inputs name) t e in
    number_below n.inputs name t.0 (a.1 ∙ ap (λ (x : InputId). some x.0) a.2)

site_below : (n : Names) (name : List ℕ) (t : SiteId) → site_in n name ≡ Some t → t.0 < length n.sites
site_below n name t e =
    let a = mapped (λ k. let x : SiteId = record { 0 = k } in x) (number_of n.sites name) t e in
    number_below n.sites name t.0 (a.1 ∙ ap (λ (x : SiteId). some x.0) a.2)

pub tasks_are : (g : Named) → IsNamedGraph g → (s : Property (List ℕ)) (body : Property TaskId) → property_in g.names s ≡ Some body → TasksOf g.graph body
tasks_are g is s body e = try_map_all (task_in g.names) (λ t. is_task g.graph t.0) (λ name t found. let lt = task_below g.names name t found in omega (arith, is.tasks)) s body e

-- there are as many sites as names of sites
sites_named : (g : Named) → IsNamedGraph g → length (all_sites g.graph) ≡ length g.names.sites
sites_named g is = ap length is.sites_in_order ∙ length-numbers_from 0 (length g.names.sites)

given_is : (g : Named) → IsNamedGraph g → (s : NamedGiven) (x : Given) → given_in g.names s ≡ Some x → IsGivenOf g.graph x
given_is g is (GivenInput name value) x e =
    let a = mapped (λ i. givens.Input i value) (input_in g.names name) x e in
    subst (λ (z : Given). IsGivenOf g.graph z) a.2 (let lt = input_below g.names name a.0 a.1 in omega (arith, is.inputs))
given_is g is (GivenQuiet name) x e =
    let a = mapped givens.Quiet (token_in g.names name) x e in
    subst (λ (z : Given). IsGivenOf g.graph z) a.2 (let lt = token_below g.names name a.0 a.1 in omega (arith, is.tokens))
given_is g is (GivenEnded name finals) x e =
    let a = mapped (λ t. givens.Ended t finals) (task_in g.names name) x e in
    subst (λ (z : Given). IsGivenOf g.graph z) a.2 (let lt = task_below g.names name a.0 a.1 in omega (arith, is.tasks))
given_is g is (GivenSucceeds name) x e =
    let a = mapped givens.Succeeds (site_in g.names name) x e in
    subst (λ (z : Given). IsGivenOf g.graph z) a.2 (let lt = site_below g.names name a.0 a.1 in omega (arith, sites_named g is))
given_is g is GivenNoFailure x e = absurd cc
given_is g is GivenNoRequest x e = absurd cc

-- ---- what is given of all, beside what is given of single things

or_false : (a : Bool) → (a || false) ≡ a
or_false true = refl
or_false false = refl

or_assoc : (a b c : Bool) → (a || (b || c)) ≡ ((a || b) || c)
or_assoc true b c = refl
or_assoc false b c = refl

again_push : (before xs : List Given) (x : Given) → given_again before (xs ++ x ∷ []) ≡ (given_again before xs || list_any (is_of_one_thing x) (before ++ xs))
again_push before [] x = or_false (list_any (is_of_one_thing x) before) ∙ ap (list_any (is_of_one_thing x)) (sym (append-nil before))
again_push before (y ∷ xs) x =
    rw (again_push (before ++ y ∷ []) xs x, append_assoc before (y ∷ []) xs)
    (or_assoc (list_any (is_of_one_thing y) before) (given_again (before ++ y ∷ []) xs) (list_any (is_of_one_thing x) (before ++ y ∷ xs)))

-- nothing is given twice by what is given of all

twice_choice : (given : List Given) (x : Given) (b : Bool) → list_any (is_of_one_thing x) given ≡ b → given_twice (cond b given (given ++ x ∷ [])) ≡ given_twice given
twice_choice given x true e = refl
twice_choice given x false e = again_push [] given x ∙ ap (λ b. given_twice given || b) e ∙ or_false (given_twice given)

twice_one : (given : List Given) (x : Given) → given_twice (with_one given x) ≡ given_twice given
twice_one given x = twice_choice given x (list_any (is_of_one_thing x) given) refl

twice_jobs : (n : ℕ) (given : List Given) → given_twice (with_jobs n given) ≡ given_twice given
twice_jobs zero given = refl
twice_jobs (suc n) given = twice_one (with_jobs n given) (givens.Succeeds (record { 0 = n })) ∙ twice_jobs n given

twice_tokens : (n : ℕ) (given : List Given) → given_twice (with_tokens n given) ≡ given_twice given
twice_tokens zero given = refl
twice_tokens (suc n) given = twice_one (with_tokens n given) (givens.Quiet (record { 0 = n })) ∙ twice_tokens n given

either_same : (b : Bool) (one other : List Given) (c : Bool) → given_twice one ≡ c → given_twice other ≡ c → given_twice (cond b one other) ≡ c
either_same true one other c p q = p
either_same false one other c p q = q

twice_all_jobs : (n : Names) (said : List NamedGiven) (given : List Given) → given_twice (with_all_jobs n said given) ≡ given_twice given
twice_all_jobs n said given = either_same (list_any is_no_failure said) (with_jobs (length n.sites) given) given (given_twice given) (twice_jobs (length n.sites) given) refl

pub twice_all : (n : Names) (said : List NamedGiven) (given : List Given) → given_twice (with_all n said given) ≡ given_twice given
twice_all n said given =
    let jobs = with_all_jobs n said given in
    either_same (list_any is_no_request said) (with_tokens (length n.tokens) jobs) jobs (given_twice given) (twice_tokens (length n.tokens) jobs ∙ twice_all_jobs n said given) (twice_all_jobs n said given)

-- and what is given of all is the graph's

choice_fits : (g : Named) (given : List Given) (x : Given) (b : Bool) → All (IsGivenOf g.graph) given → IsGivenOf g.graph x → All (IsGivenOf g.graph) (cond b given (given ++ x ∷ []))
choice_fits g given x true all is = all
choice_fits g given x false all is = All-push (IsGivenOf g.graph) given x all is

jobs_fit : (g : Named) (n : ℕ) (given : List Given) → n ≤ length (all_sites g.graph) → All (IsGivenOf g.graph) given → All (IsGivenOf g.graph) (with_jobs n given)
jobs_fit g zero given le all = all
jobs_fit g (suc n) given le all =
    let x : Given = givens.Succeeds (record { 0 = n }) in
    choice_fits g (with_jobs n given) x (list_any (is_of_one_thing x) (with_jobs n given)) (jobs_fit g n given (omega arith) all) (omega arith)

tokens_fit : (g : Named) (n : ℕ) (given : List Given) → n ≤ length g.graph.tokens → All (IsGivenOf g.graph) given → All (IsGivenOf g.graph) (with_tokens n given)
tokens_fit g zero given le all = all
tokens_fit g (suc n) given le all =
    let x : Given = givens.Quiet (record { 0 = n }) in
    choice_fits g (with_tokens n given) x (list_any (is_of_one_thing x) (with_tokens n given)) (tokens_fit g n given (omega arith) all) (omega arith)

either_fits : (g : Named) (b : Bool) (one other : List Given) → All (IsGivenOf g.graph) one → All (IsGivenOf g.graph) other → All (IsGivenOf g.graph) (cond b one other)
either_fits g true one other p q = p
either_fits g false one other p q = q

all_jobs_fit : (g : Named) → IsNamedGraph g → (said : List NamedGiven) (given : List Given) → All (IsGivenOf g.graph) given → All (IsGivenOf g.graph) (with_all_jobs g.names said given)
all_jobs_fit g is said given all =
    let sites = sites_named g is in
    either_fits g (list_any is_no_failure said) (with_jobs (length g.names.sites) given) given (jobs_fit g (length g.names.sites) given (omega arith) all) all

all_fit : (g : Named) → IsNamedGraph g → (said : List NamedGiven) (given : List Given) → All (IsGivenOf g.graph) given → All (IsGivenOf g.graph) (with_all g.names said given)
all_fit g is said given all =
    let jobs = all_jobs_fit g is said given all in
    let tokens = is.tokens in
    either_fits g (list_any is_no_request said) (with_tokens (length g.names.tokens) (with_all_jobs g.names said given)) (with_all_jobs g.names said given)
    (tokens_fit g (length g.names.tokens) (with_all_jobs g.names said given) (omega arith) jobs) jobs

-- ---- the claim that is asked

abbrev claim_with : List Given → Property TaskId → Claim
claim_with given body = record { given = given; body = body }

claim_is : (c : Claim) (given : List Given) (body : Property TaskId) → c.given ≡ given → c.body ≡ body → claim_with given body ≡ c
claim_is c given body e f = rw (← e, ← f) refl

abbrev right : Claim → Result Claim ClaimFault
right c = Ok c

pub asked : (g : Named) (s : NamedClaim) (c : Claim) (singles : List Given) (body : Property TaskId) → singles_in g.names s.given ≡ Ok singles → property_in g.names s.body ≡ Some body → have_bodies g.graph body ≡ true
    → (given_twice singles || says_twice s.given) ≡ false → c.given ≡ with_all g.names s.given singles → c.body ≡ body → claim_in g s ≡ Ok c
unfolding claim_in
asked g s c singles body e f bodies once given is = rw (e, f, bodies, once) (ap right (claim_is c (with_all g.names s.given singles) body given is))

pub claim_fits : (g : Named) → IsNamedGraph g → (s : NamedClaim) (c : Claim) → claim_in g s ≡ Ok c → Fits g.graph c
unfolding claim_in
claim_fits g is s c e =
    let singles = bind_ok (singles_in g.names s.given) _ c e in
    let body = bind_or (property_in g.names s.body) faults.Unknown _ c singles.2 in
    let bodies = bind_or (only_if (have_bodies g.graph body.0)) faults.NoBody _ c body.2 in
    let once = bind_or (only_if (not (given_twice singles.0 || says_twice s.given))) faults.GivenTwice _ c bodies.2 in
    let whole : claim_with (with_all g.names s.given singles.0) body.0 ≡ c = ok_is _ c _ refl once.2 in
    let never = or_parts (given_twice singles.0) (says_twice s.given) (not-true (given_twice singles.0 || says_twice s.given) (only_is _ _ once.1)) in
    subst (Fits g.graph) whole (record {
      given = all_fit g is s.given singles.0 (all_every faults.Unknown (given_in g.names) (IsGivenOf g.graph) (given_is g is) (filter is_single s.given) singles.0 singles.1);
      tasks = tasks_are g is s.body body.0 body.1;
      bodies = only_is _ _ bodies.1;
      once = twice_all g.names s.given singles.0 ∙ never.0;
    })

-- ---- each of the claims

-- the claim behind those before it
pub among : {X : Type 0} (g : Named) (view : X → NamedClaim) (xs : List X) (i : ℕ) (c : NamedClaim) (r : Result Claim ClaimFault) → claim_behind g (map view (take i xs)) c ≡ r → claim_among g (map view xs) (i + 1) c ≡ at_number (i + 1) r
among g view xs i c r is =
    let here : (i + 1) - 1 ≡ i = omega arith in
    ap (λ k. at_number (i + 1) (claim_behind g (take k (map view xs)) c)) here ∙ ap (λ bs. at_number (i + 1) (claim_behind g bs c)) (take-map view i xs) ∙ ap (at_number (i + 1)) is

pub numbered_ok : {A F : Type 0} (n : ℕ) (r : Result A F) (x : A) → at_number n r ≡ Ok x → r ≡ Ok x
numbered_ok n (Ok y) x e = cc
numbered_ok n (Err fault) x e = absurd cc

behind_fits : (g : Named) → IsNamedGraph g → (before : List NamedClaim) (s : NamedClaim) (c : Claim) → claim_behind g before s ≡ Ok c → Fits g.graph c
unfolding claim_behind
behind_fits g is before s c e =
    let claim = bind_ok (claim_in g s) _ c e in
    let own = bind_or (only_if (not (has_name_of before s))) faults.NameTwice _ c claim.2 in
    subst (Fits g.graph) (ok_is claim.0 c _ refl own.2) (claim_fits g is s claim.0 claim.1)

pub all_asked_fit : {X : Type 0} (g : Named) → IsNamedGraph g → (ss : List NamedClaim) (view : X → List Claim) (r : Result X (Miss (ℕ × ClaimFault))) → Yields view r (claims_in g ss) → IfOk r (λ x. All (Fits g.graph) (view x))
all_asked_fit g is ss view (Ok x) e =
    each_every (claim_among g ss) (Fits g.graph) (λ n s c h. behind_fits g is (take (n - 1) ss) s c (numbered_ok n (claim_behind g (take (n - 1) ss) s) c h)) 1 ss (view x) e
all_asked_fit g is ss view (Err e) h = tt

-- ---- and no more than there may be

few_claims : (version : Version) (g : Named) (ss : List NamedClaim) → length ss ≤ most_claims version → claims_in g ss ≡ claims_for version g ss
unfolding claims_for
few_claims version g ss le = rw (le-leb (length ss) (most_claims version) le) refl

pub yields_few : {X : Type 0} (version : Version) (g : Named) (ss : List NamedClaim) (view : X → List Claim) (r : Result X (Miss (ℕ × ClaimFault))) → length ss ≤ most_claims version → Yields view r (claims_in g ss) → Yields view r (claims_for version g ss)
yields_few version g ss view r le h = subst (λ (z : Result (List Claim) (ℕ × ClaimFault)). Yields view r z) (few_claims version g ss le) h

pub too_many : (version : Version) (g : Named) (ss : List NamedClaim) → most_claims version < length ss → claims_for version g ss ≡ Err (most_claims version + 1, faults.TooMany)
unfolding claims_for
too_many version g ss lt = rw (lt-leb (length ss) (most_claims version) lt) refl
