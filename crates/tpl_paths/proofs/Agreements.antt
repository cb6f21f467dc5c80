-- Readings that agree on the tokens of a body find the same in it.
use Rattle.std.proofs.Common.{◌≡◌, ℕ, ◌<◌, not, Bool, true, false, Option, None, refl, ap, ◌∙◌}
use Rattle.std.proofs.Math.Path.{fun_ext}
use Rattle.tpl_model.specs.declared.outcome.Outcome.{Outcome}
use Rattle.tpl_model.specs.declared.outcome.Outcome.TheVariants.{Returned}
use Rattle.tpl_model.specs.Statements.{Statement, Check, Cancel, If, When, Statements, Nothing, ◌⨾◌}
use Rattle.tpl_model.specs.Paths.{cancellation, Known}
use Rattle.tpl_model.specs.Recursion.{another}
use Rattle.tpl_model.specs.Knowledge.{Knowledge, Reached, ChildEnd, Reading, meet, when, with_tokens, both, join, through, behind, collected, collected_in, ending_at, ended_by, ending_as, throwing, starting, from, at_end, at_throw, at_start}
use Rattle.tpl_paths.specs.Agreement.{TokensBelow, TokensWithin, AgreeBelow, AgreeingReadings}

module _ (n : ℕ) (known : Known) (child : ℕ → Option ChildEnd) (l m : ℕ → ℕ → Bool) (same : (k : ℕ) → k < n → l k ≡ m k) where
  abbrev v : Reading
  v = record { known = known; linked = l; child = child }

  abbrev w : Reading
  w = record { known = known; linked = m; child = child }

  two_lists : (p q : Bool) (x y z u : Reached) → x ≡ z → y ≡ u → join (both (when p) x) (both (when q) y) ≡ join (both (when p) z) (both (when q) u)
  two_lists p q x y z u e f = ap (λ r. join (both (when p) r) (both (when q) y)) e ∙ ap (λ r. join (both (when p) z) (both (when q) r)) f

  mutual
    through_same : (b : Statements) (r : Reached) → TokensBelow n b → through v b r ≡ through w b r
    through_same Nothing r t = refl
    through_same (s ⨾ rest) r t = through_same rest (behind v s r) t.1 ∙ ap (through w rest) (behind_same s r t.0)

    behind_same : (s : Statement) (r : Reached) → TokensWithin n s → behind v s r ≡ behind w s r
    behind_same (Cancel k) r t = ap (λ (ks : ℕ → Bool). both (λ s. when (not (known.quiet k)) (with_tokens ks s)) r) (same k t)
    behind_same (If i a b) r t =
        two_lists (known.possible i true) (known.possible i false) (through v a r) (through v b r) (through w a r) (through w b r) (through_same a r t.0) (through_same b r t.1)
    behind_same (When f a b) r t =
        two_lists (known.subject f) (another known f) (through v a r) (through v b r) (through w a r) (through w b r) (through_same a r t.0) (through_same b r t.1)
    behind_same s r t = refl

  either_same : (p q : Bool) (x y z u : Option Knowledge) → x ≡ z → y ≡ u → meet (when p x) (when q y) ≡ meet (when p z) (when q u)
  either_same p q x y z u e f = ap (λ s. meet (when p s) (when q y)) e ∙ ap (λ s. meet (when p z) (when q s)) f

  -- the same is asked for at each statement
  abbrev AsksSame : (Statement → Reached → Option Knowledge) → (Statement → Reached → Option Knowledge) → Type 0
  AsksSame ask asks = (s : Statement) (r : Reached) → TokensWithin n s → ask s r ≡ asks s r

  mutual
    collected_same : (ask asks : Statement → Reached → Option Knowledge) → AsksSame ask asks → (b : Statements) (r : Reached) → TokensBelow n b → collected ask v b r ≡ collected asks w b r
    collected_same ask asks e Nothing r t = refl
    collected_same ask asks e (s ⨾ rest) r t =
        ap (λ x. meet x (collected ask v rest (behind v s r))) (collected_in_same ask asks e s r t.0)
        ∙ (ap (meet (collected_in asks w s r)) (collected_same ask asks e rest (behind v s r) t.1)
        ∙ ap (λ q. meet (collected_in asks w s r) (collected asks w rest q)) (behind_same s r t.0))

    collected_in_same : (ask asks : Statement → Reached → Option Knowledge) → AsksSame ask asks → (s : Statement) (r : Reached) → TokensWithin n s → collected_in ask v s r ≡ collected_in asks w s r
    collected_in_same ask asks e (If i a b) r t =
        either_same (known.possible i true) (known.possible i false) (collected ask v a r) (collected ask v b r) (collected asks w a r) (collected asks w b r)
        (collected_same ask asks e a r t.0) (collected_same ask asks e b r t.1)
    collected_in_same ask asks e (When f a b) r t =
        either_same (known.subject f) (another known f) (collected ask v a r) (collected ask v b r) (collected asks w a r) (collected asks w b r)
        (collected_same ask asks e a r t.0) (collected_same ask asks e b r t.1)
    collected_in_same ask asks e s r t = e s r t

  ending_same : (pick : Outcome → Reached → Option Knowledge) → AsksSame (ending_at pick v) (ending_at pick w)
  ending_same pick (Check k) r t = ap (λ (ks : ℕ → Bool). when (not (known.quiet k)) (pick (cancellation known.own k) (both (with_tokens ks) r))) (same k t)
  ending_same pick s r t = refl

  pub ended_same : (pick : Outcome → Reached → Option Knowledge) (b : Statements) (r : Reached) → TokensBelow n b → ended_by pick v b r ≡ ended_by pick w b r
  ended_same pick b r t =
      ap (λ x. meet x (pick Returned (through v b r))) (collected_same (ending_at pick v) (ending_at pick w) (ending_same pick) b r t)
      ∙ ap (λ q. meet (collected (ending_at pick w) w b r) (pick Returned q)) (through_same b r t)

  pub started_same : (c : ℕ) (b : Statements) (r : Reached) → TokensBelow n b → collected (starting c) v b r ≡ collected (starting c) w b r
  started_same c b r t = collected_same (starting c) (starting c) (λ s q u. refl) b r t

-- the first reading, with what is known and the children of the second
alike : (n : ℕ) (v w : Reading) → AgreeBelow n v w → let x : Reading = record { known = w.known; linked = v.linked; child = w.child } in v ≡ x
alike n v w a =
    ap (λ k. let x : Reading = record { known = k; linked = v.linked; child = v.child } in x) a.known
    ∙ ap (λ c. let x : Reading = record { known = w.known; linked = v.linked; child = c } in x) (fun_ext a.child)

pub agreeing : AgreeingReadings
agreeing n v w body tokens a t = (
  λ f. ap (λ x. at_end f x tokens body) (alike n v w a) ∙ ended_same n w.known w.child v.linked w.linked same (ending_as f) body (from tokens) t,
  ap (λ x. at_throw x tokens body) (alike n v w a) ∙ ended_same n w.known w.child v.linked w.linked same throwing body (from tokens) t,
  λ c. ap (λ x. at_start c x tokens body) (alike n v w a) ∙ started_same n w.known (λ d. None) v.linked w.linked same c body (from tokens) t,
)
  where
    same : (k : ℕ) → k < n → v.linked k ≡ w.linked k
    same k lt = fun_ext (λ j. a.linked k j lt)
