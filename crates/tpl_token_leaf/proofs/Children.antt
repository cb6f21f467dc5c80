-- What rows say of the children of a task, by its own row.
use Rattle.std.proofs.Common.{◌≡◌, ℕ, ◌||◌, not, Bool, true, false, Option, Some, None, refl, ap, ◌∙◌, subst}
use Rattle.tpl_model.proofs.Truths.{or_false}
use Rattle.tpl_model.specs.Members.{mem}
use Rattle.tpl_model.specs.Knowledge.{Fact, Knowledge, IsSettled, IsRequested}
use Rattle.tpl_model.specs.Graph.{Child}
use Rattle.tpl_model.specs.Certificate.{row, plain}
use Rattle.tpl_model.specs.TokenRules.{Way, known_at_start, may_run, own_among}
use Rattle.tpl_laws.specs.RowTests.{by_parent, implies, parent_of}
use Rattle.tpl_laws.specs.TokenTests.{if_known, known_there, settled_before}
use Rattle.tpl_token_leaf.specs.declared.leaf.Leaf.{Leaf}
use Rattle.tpl_token_leaf.specs.declared.ways.Ways.{Ways}
use Rattle.tpl_token_leaf.specs.Leaf.{graph_of, assumed_in, rows_in}
use Rattle.tpl_token_leaf.specs.LeafRules.{begins_as, each_drop_under, holds_as, runs_as, AreDrops}
use Rattle.tpl_token_leaf.specs.Ways.{AreWays}

-- the row of t runs, if its own token isn't known to be requested where these paths start it
abbrev pub runs_by_paths : Leaf → ℕ → Option Knowledge → Bool
runs_by_paths leaf t o = if_known o (λ known. implies (not (own_among (graph_of leaf) t known.requested)) (may_run (rows_in leaf) t))

-- the row of t runs, if p may start it
abbrev pub runs_under : Leaf → ℕ → ℕ → Bool
runs_under leaf p t = implies (may_run (rows_in leaf) p) (runs_by_paths leaf t (known_at_start (graph_of leaf) (assumed_in leaf) (rows_in leaf) p t))

-- what may be said of when t begins, which p starts
abbrev pub begins_under : Leaf → ℕ → ℕ → Fact → Bool
begins_under leaf p t (IsSettled x) = mem x (row (plain (rows_in leaf)) p).before
begins_under leaf p t (IsRequested k) = if_known (known_at_start (graph_of leaf) (assumed_in leaf) (rows_in leaf) p t) (λ known. known.requested k)

module _ (leaf : Leaf) (t : ℕ) (o : Option ℕ) (is : o ≡ parent_of (graph_of leaf) t) where
  pub child_runs : by_parent o (λ p. runs_under leaf p t) ≡ runs_as leaf t Child
  child_runs = ap (λ z. by_parent z (λ p. runs_under leaf p t)) is

  pub child_begins : (f : Fact) → by_parent o (λ p. begins_under leaf p t f) ≡ begins_as leaf t Child f
  child_begins (IsSettled x) = ap (λ z. by_parent z (λ p. begins_under leaf p t (IsSettled x))) is
  child_begins (IsRequested k) = ap (λ z. by_parent z (λ p. begins_under leaf p t (IsRequested k))) is

  pub child_drops : (w : Ways) → AreWays (λ (test : Way → Bool). by_parent o (λ p. each_drop_under leaf p t test)) (holds_as leaf t Child) w → AreDrops leaf t Child w
  child_drops w a = subst (λ (z : Option ℕ). AreWays (λ (test : Way → Bool). by_parent z (λ p. each_drop_under leaf p t test)) (holds_as leaf t Child) w) is a

-- a child that is started on no path has a row that runs
pub unstarted : (leaf : Leaf) (p t : ℕ) → None ≡ known_at_start (graph_of leaf) (assumed_in leaf) (rows_in leaf) p t → true ≡ runs_under leaf p t
unstarted leaf p t e = implied (may_run (rows_in leaf) p) ∙ ap (λ o. implies (may_run (rows_in leaf) p) (runs_by_paths leaf t o)) e
  where
    implied : (b : Bool) → true ≡ implies b true
    implied true = refl
    implied false = refl

-- what is settled when its parent begins, and what the paths know that start it
pub begins_known : (leaf : Leaf) (p t : ℕ) (known : Knowledge) → Some known ≡ known_at_start (graph_of leaf) (assumed_in leaf) (rows_in leaf) p t
    → (f : Fact) → (settled_before (rows_in leaf) p f || known_there known f) ≡ begins_under leaf p t f
begins_known leaf p t known e (IsSettled x) = or_false (mem x (row (plain (rows_in leaf)) p).before)
begins_known leaf p t known e (IsRequested k) = ap (λ (o : Option Knowledge). if_known o (λ known. known.requested k)) e
