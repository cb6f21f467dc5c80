-- The ids of a next statement are below the limits.
use Rattle.std.proofs.Common.{◌≡◌, ℕ, ◌<◌, Bool, List, Option, Some, None, sym, subst, arith}
use Rattle.std.specs.Prelude.{IfSome}
use Rattle.std.specs.Option.{option_map}
use Rattle.tpl_model.specs.declared.ids.TaskId.{TaskId}
use Rattle.tpl_model.specs.declared.ids.TokenId.{TokenId}
use Rattle.tpl_model.specs.Cursor.{BeginsWith}
use Rattle.tpl_model.specs.Statements.{Statements, Check}
use Rattle.tpl_model.specs.declared.event.Event.{Event}
use Rattle.tpl_model.specs.Graph.{TaskGraph, is_task, is_token}
use Rattle.tpl_model.specs.Facts.{rest}
use Rattle.tpl_model.specs.Valid.{IdsOf, IsGraph}
use Rattle.tpl_draft.specs.Ids.{task_number, token_number}
use Rattle.tpl_run.specs.Body.{cancel_of, start_of}
use Rattle.tpl_machine.proofs.IdLemmas.{ids_rest, cancel_within, start_within}

module _ (g : TaskGraph) (v : List Bool) (h : List Event) where
  left_ids : (t : ℕ) (left : Statements) → IsGraph g → is_task g t → left ≡ (rest g v h t).left → IdsOf g left
  left_ids t left valid lt is = subst (IdsOf g) (sym is) (ids_rest g v h t (valid.each t lt).ids)

  -- the ids of the next statement are the graph's
  pub cancels_below : (t : ℕ) (o : Option TokenId) (left : Statements) → IsGraph g → is_task g t → left ≡ (rest g v h t).left → option_map token_number o ≡ cancel_of left → IfSome o (λ k. k.0 < 32)
  cancels_below t None left valid lt is e = tt
  cancels_below t (Some k) left valid lt is e = omega (arith, cancel_within g left k.0 (left_ids t left valid lt is) (sym e), valid.tokens)

  pub starts_below : (t : ℕ) (o : Option TaskId) (left : Statements) → IsGraph g → is_task g t → left ≡ (rest g v h t).left → option_map task_number o ≡ start_of left → IfSome o (λ c. c.0 < 1024)
  starts_below t None left valid lt is e = tt
  starts_below t (Some c) left valid lt is e = omega (arith, start_within g left c.0 (left_ids t left valid lt is) (sym e), valid.tasks)

  -- a token that is checked is the graph's
  pub checks_within : (t k : ℕ) → IsGraph g → is_task g t → BeginsWith (rest g v h t).left (Check k) → is_token g k
  checks_within t k valid lt begins = (subst (IdsOf g) begins.1 (ids_rest g v h t (valid.each t lt).ids)).0
