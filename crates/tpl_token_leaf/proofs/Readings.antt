-- Readings of bodies in memory, and what they find.
use Rattle.std.proofs.Common.{◌≡◌, ℕ, ◌<◌, Bool, true, false, Option, Some, None, if◌then◌else◌, List, length, refl, ◌∙◌}
use Rattle.std.specs.Prelude.{is_some, slice_get, slice_index_or}
use Rattle.std.specs.Option.{option_map}
use Rattle.tpl_model.specs.declared.finals.Final.{Final}
use Rattle.tpl_model.specs.Members.{mem}
use Rattle.tpl_model.specs.Statements.{Statement, Statements, Return, Throw, Check, Cancel, Start, Observe, Work, If, When, Nothing, ◌⨾◌}
use Rattle.tpl_model.specs.Knowledge.{Reading, at_end, at_start, at_throw}
use Rattle.tpl_model.specs.Paths.{Known}
use Rattle.tpl_paths.specs.declared.knowledge.Knowledge.{Knowledge as StoredKnowledge}
use Rattle.tpl_paths.specs.Knowledge.{told}
use Rattle.tpl_paths.specs.TokenSet.{has_token, no_tokens}
use Rattle.tpl_paths.specs.Reading.{end_of}
use Rattle.tpl_paths.specs.Agreement.{TokensBelow, TokensWithin, AgreeBelow, AgreeingReadings}
use Rattle.tpl_model.specs.Graph.{TaskGraph, attached, body, is_task}
use Rattle.tpl_model.specs.Valid.{IdsOf, IdsWithin, IsGraph}
use Rattle.tpl_model.specs.Certificate.{row, plain}
use Rattle.tpl_model.specs.TokenRules.{ends_with, token_view, reading, asked_of, known_at_end, known_at_start}
use Rattle.tpl_laws.proofs.Settling.{child_task, attached_child}
use Rattle.tpl_token_leaf.specs.declared.leaf.Leaf.{Leaf}
use Rattle.tpl_token_leaf.specs.Leaf.{graph_of, assumed_in, rows_in, IsLeaf}

mutual
  pub tokens_below : (g : TaskGraph) (b : Statements) → IdsOf g b → TokensBelow (length g.tokens) b
  tokens_below g Nothing ids = tt
  tokens_below g (s ⨾ rest) ids = (tokens_within g s ids.0, tokens_below g rest ids.1)

  tokens_within : (g : TaskGraph) (s : Statement) → IdsWithin g s → TokensWithin (length g.tokens) s
  tokens_within g Return ids = tt
  tokens_within g (Throw l) ids = tt
  tokens_within g (Check k) ids = ids
  tokens_within g (Cancel k) ids = ids
  tokens_within g (Start c) ids = tt
  tokens_within g Observe ids = tt
  tokens_within g (Work site may_fail) ids = tt
  tokens_within g (If i first second) ids = (tokens_below g first ids.1, tokens_below g second ids.2)
  tokens_within g (When f first second) ids = (tokens_below g first ids.0, tokens_below g second ids.1)

-- some path is told of
pub some_told : (o : Option StoredKnowledge) → is_some o ≡ is_some (told o)
some_told None = refl
some_told (Some k) = refl

-- how an attached child ends
module _ (leaf : Leaf) (fits : IsLeaf leaf) (valid : IsGraph (graph_of leaf)) (t : ℕ) where
  child_same : (c : ℕ) (b : Bool) → (b ≡ true → c < length (graph_of leaf).tasks)
      → (if b then option_map end_of (slice_get leaf.ends.now c) else None) ≡ (if b then Some (record { ends = (row (plain (rows_in leaf)) c).ends; facts = ends_with (rows_in leaf) c }) else None)
  child_same c true inside = fits.ends c (inside refl)
  child_same c false inside = refl

  -- the body of t as it is read in memory
  pub agreeing : (view : Known) (children : List ℕ) → view ≡ token_view (graph_of leaf) (assumed_in leaf) (rows_in leaf) t → ((x : ℕ) → mem x children ≡ mem x (attached (graph_of leaf) t))
      → AgreeBelow (length (graph_of leaf).tokens) (record { known = view; linked = λ k. has_token (slice_index_or leaf.linked.now k no_tokens); child = λ c. if mem c children then option_map end_of (slice_get leaf.ends.now c) else None })
      (reading (graph_of leaf) (assumed_in leaf) (rows_in leaf) t)
  agreeing view children sees attaches = record {
    known = sees;
    linked = λ k j lt. fits.linked k j lt;
    child = λ c. (λ i. if attaches c i then option_map end_of (slice_get leaf.ends.now c) else None) ∙ child_same c (mem c (attached (graph_of leaf) t)) (λ m. child_task (graph_of leaf) t c valid (attached_child (graph_of leaf) t c m));
  }

  -- what a reading finds in the body that agrees with that of the rules
  module _ (agree : AgreeingReadings) (in_graph : is_task (graph_of leaf) t) (r : Reading) (agrees : AgreeBelow (length (graph_of leaf).tokens) r (reading (graph_of leaf) (assumed_in leaf) (rows_in leaf) t))
      (tokens : ℕ → Bool) (asked : (k : ℕ) → tokens k ≡ asked_of (rows_in leaf) t k) (b : Statements) (is_body : b ≡ body (graph_of leaf) t) where
    pub at_end_same : (f : Final) → at_end f r tokens b ≡ known_at_end (graph_of leaf) (assumed_in leaf) (rows_in leaf) t f
    at_end_same f =
        (λ i. at_end f r (λ k. asked k i) (is_body i))
        ∙ (agree (length (graph_of leaf).tokens) r (reading (graph_of leaf) (assumed_in leaf) (rows_in leaf) t) (body (graph_of leaf) t) (asked_of (rows_in leaf) t) agrees (tokens_below (graph_of leaf) (body (graph_of leaf) t) (valid.each t in_graph).ids)).0 f

    pub at_throw_same : at_throw r tokens b ≡ at_throw (reading (graph_of leaf) (assumed_in leaf) (rows_in leaf) t) (asked_of (rows_in leaf) t) (body (graph_of leaf) t)
    at_throw_same =
        (λ i. at_throw r (λ k. asked k i) (is_body i))
        ∙ (agree (length (graph_of leaf).tokens) r (reading (graph_of leaf) (assumed_in leaf) (rows_in leaf) t) (body (graph_of leaf) t) (asked_of (rows_in leaf) t) agrees (tokens_below (graph_of leaf) (body (graph_of leaf) t) (valid.each t in_graph).ids)).1

    pub at_start_same : (c : ℕ) → at_start c r tokens b ≡ known_at_start (graph_of leaf) (assumed_in leaf) (rows_in leaf) t c
    at_start_same c =
        (λ i. at_start c r (λ k. asked k i) (is_body i))
        ∙ (agree (length (graph_of leaf).tokens) r (reading (graph_of leaf) (assumed_in leaf) (rows_in leaf) t) (body (graph_of leaf) t) (asked_of (rows_in leaf) t) agrees (tokens_below (graph_of leaf) (body (graph_of leaf) t) (valid.each t in_graph).ids)).2 c
