-- How deep the JSON value of verdicts nests.
use Rattle.std.proofs.Common.{◌≡◌, ℕ, suc, ◌≤◌, Bool, true, false, Option, Some, None, Result, Ok, Err, List, [], ◌∷◌, codes, map, refl, sym, subst, arith}
use Rattle.std.specs.Prelude.{ok_or}
use Rattle.serde_json.specs.Data.{Data, Members, depth, items_depth, object, string}
use Rattle.serde_json.specs.View.{items_of}
use Rattle.tpl_draft.specs.Named.{Names}
use Rattle.tpl_verify.specs.declared.verdict.Empty as reasons
use Rattle.tpl_verify.specs.declared.verdict.Empty.TheVariants.{NeverBegins, NamesAllEnds, NamesGivenEnds, NeverThrows, NeverEndsSo, NeverEnds, NeverKept}
use Rattle.tpl_verify.specs.declared.verdict.Verdict.{Verdict}
use Rattle.tpl_verify.specs.declared.verdict.Verdict.TheVariants as verdict
use Rattle.tpl_model.specs.declared.rule_set.RuleSet.{RuleSet}
use Rattle.tpl_model.specs.Certificate.{Tree}
use Rattle.tpl_model.specs.Claims.{Claim}
use Rattle.tpl_trees.specs.Heights.{height, is_within_limits}
use Rattle.tpl_trees.proofs.WithinLimits.{within_from}
use Rattle.tpl_json.specs.Members.{only_if}
use Rattle.tpl_json.specs.Passes.{◌>>=◌}
use Rattle.tpl_cert.specs.declared.fault.TreeFault.{TreeFault}
use Rattle.tpl_cert.specs.declared.fault.TreeFault.TheVariants.{Limit}
use Rattle.tpl_cert.specs.Spelled.{read_tree, spelled_tree}
use Rattle.tpl_cert.specs.Written.{tree_data}
use Rattle.tpl_cert.proofs.Nesting.{tree_depth}
use Rattle.tpl_verdicts.specs.Told.{Told}
use Rattle.tpl_verdicts.specs.declared.word.Word.{Word}
use Rattle.tpl_causes.specs.declared.cause.Cause.{Cause}
use Rattle.tpl_verdicts.specs.Json.{IsClaimData, IsNamed, IsNamedData, IsTreeData, cause_data, verdicts_data, why_data}
use Rattle.tpl_json.proofs.Puts.{depth_put}
use Rattle.tpl_verdicts.specs.Lines.{AreNumbered}

why_depth : (names : Names) (why : reasons.Empty) → depth (why_data names why) ≤ 1
why_depth names (NeverBegins t) = omega arith
why_depth names NamesAllEnds = omega arith
why_depth names NamesGivenEnds = omega arith
why_depth names NeverThrows = omega arith
why_depth names (NeverEndsSo t) = omega arith
why_depth names (NeverEnds t) = omega arith
why_depth names NeverKept = omega arith

causes_depth : (causes : List Cause) → items_depth (items_of (map cause_data causes)) ≤ 1
causes_depth [] = omega arith
causes_depth (cause ∷ causes) = let rest = causes_depth causes in omega (arith, rest)

-- a tree that is read is within the limits
within_step : (s : Tree) (b : Bool) (t : Tree) → is_within_limits s ≡ b → ((ok_or (only_if b) Limit >>= (λ few. Ok s)) ≡ Ok t) → is_within_limits t ≡ true
within_step s true t e read =
    let same : s ≡ t = cc in subst (λ (x : Tree). is_within_limits x ≡ true) same e
within_step s false t e read = absurd cc

within_of : (r : Result Tree TreeFault) (t : Tree) → ((r >>= (λ tree. ok_or (only_if (is_within_limits tree)) Limit >>= (λ few. Ok tree))) ≡ Ok t) → is_within_limits t ≡ true
within_of (Ok s) t read = within_step s (is_within_limits s) t refl read
within_of (Err e) t read = absurd cc

read_low : (rules : RuleSet) (names : Names) (d : Data) (t : Tree) → read_tree rules names d ≡ Ok t → height t ≤ 6
unfolding read_tree
read_low rules names d t read = (within_from t (within_of (spelled_tree rules names d) t read)).0

-- so it nests little
tree_low : (rules : RuleSet) (names : Names) (certificate : List Tree) (d : Data) → IsTreeData rules names certificate d → depth d ≤ 10
tree_low rules names certificate d is =
    let low = read_low rules names (tree_data rules names is.tree) is.tree is.back in
    let le = tree_depth rules names is.tree in
    subst (λ (x : Data). depth x ≤ 10) (sym is.written) (omega (arith, low, le))

claim_depth : (rules : RuleSet) (names : Names) (n : ℕ) (claim : Claim) (v : Verdict) (d : Data) → IsClaimData rules names n claim v d → depth d ≤ 11
claim_depth rules names n claim (verdict.Holds certificate splits None) d is =
    let low = tree_low rules names certificate is.0 is.1 in subst (λ (x : Data). depth x ≤ 11) (sym is.2) (omega (arith, low))
claim_depth rules names n claim (verdict.Holds certificate splits (Some why)) d is =
    let low = tree_low rules names certificate is.0 is.1 in
    let le = why_depth names why in
    subst (λ (x : Data). depth x ≤ 11) (sym is.2) (omega (arith, low, le))
claim_depth rules names n claim (verdict.Fails run) d is =
    let flat = is.3.1.flat in
    let there : depth is.1 ≤ 2 = subst (λ (x : Data). depth x ≤ 2) (sym is.3.2) (omega arith) in
    let told : items_depth (items_of is.0) ≤ 1 = subst (λ (ds : List Data). items_depth (items_of ds) ≤ 1) (sym is.2.2) (causes_depth is.2.0) in
    subst (λ (x : Data). depth x ≤ 11) (sym is.4) (omega arith)
claim_depth rules names n claim (verdict.Unknown tried) d is = subst (λ (x : Data). depth x ≤ 11) (sym is) (omega arith)

-- the value for a claim is an object
pub claim_object : (rules : RuleSet) (names : Names) (n : ℕ) (claim : Claim) (v : Verdict) (d : Data) → IsClaimData rules names n claim v d → (ms : Members) × (d ≡ object ms)
claim_object rules names n claim (verdict.Holds certificate splits None) d is = (_, is.2)
claim_object rules names n claim (verdict.Holds certificate splits (Some why)) d is = (_, is.2)
claim_object rules names n claim (verdict.Fails run) d is = (_, is.4)
claim_object rules names n claim (verdict.Unknown tried) d is = (_, is)

-- with the name of the claim it nests no deeper
named_depth : (rules : RuleSet) (names : Names) (n : ℕ) (told : Told) (d : Data) → IsNamedData rules names n told d → depth d ≤ 11
named_depth rules names n told d is = by told.name is.0 d is.2 (claim_depth rules names n told.claim told.verdict is.0 is.1)
  where
    by : (name : Option (List ℕ)) (plain d : Data) → IsNamed name plain d → depth plain ≤ 11 → depth d ≤ 11
    by None plain d same le = subst (λ (x : Data). depth x ≤ 11) (sym same) le
    by (Some name) plain d named le =
        let whole : depth (object named.0) ≤ 11 = subst (λ (x : Data). depth x ≤ 11) named.1 le in
        let put = depth_put (codes "name") (string name) named.0 10 (omega arith) (omega arith) in
        subst (λ (x : Data). depth x ≤ 11) (sym named.2) (omega arith)

claims_depth : (rules : RuleSet) (names : Names) (n : ℕ) (vs : List Told) (ds : List Data) → AreNumbered (IsNamedData rules names) n vs ds → items_depth (items_of ds) ≤ 11
claims_depth rules names n [] [] are = omega arith
claims_depth rules names n [] (d ∷ ds) are = absurd are
claims_depth rules names n (v ∷ vs) [] are = absurd are
claims_depth rules names n (v ∷ vs) (d ∷ ds) are =
    let first = named_depth rules names n v d are.0 in
    let rest = claims_depth rules names (suc n) vs ds are.1 in
    omega arith

pub whole_depth : (rules : RuleSet) (names : Names) (told : List Told) (words : List Word) (ds : List Data) → AreNumbered (IsNamedData rules names) 1 told ds → depth (verdicts_data ds words) ≤ 127
whole_depth rules names told words ds are =
    let le = claims_depth rules names 1 told ds are in omega arith
