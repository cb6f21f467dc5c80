-- What a split or a given adds to what is assumed.
use Rattle.std.proofs.Common.{◌≡◌, ℕ, zero, suc, ◌<◌, ◌&&◌, ◌||◌, inl, inr, not, Bool, true, false, List, [], ◌∷◌, length, refl, sym, ap, ◌∙◌, subst, nat_eq, slice_index_or, slice_set, replicate, arith}
use Rattle.std.proofs.lemmas.List.{get_or-set_same, get_or-set_other}
use Rattle.std.proofs.lemmas.Bool.Decides.{eqb_tells}
use Rattle.tpl_model.specs.declared.finals.Final.{Final}
use Rattle.tpl_model.specs.declared.finals.Final.TheVariants.{RanToCompletion, Canceled, Faulted}
use Rattle.tpl_model.specs.Members.{mem}
use Rattle.tpl_model.specs.declared.view.Possible.{Possible}
use Rattle.tpl_model.specs.View.{may_have}
use Rattle.tpl_model.specs.declared.finals.Finals.{Finals}
use Rattle.tpl_model.specs.Finals.{has, is_final}
use Rattle.tpl_model.proofs.MemberLemmas.{same_either_way}
use Rattle.tpl_model.specs.Certificate.{same, with_input, with_end}
use Rattle.tpl_checker.specs.declared.assumptions.Assumptions.{Assumptions}
use Rattle.tpl_checker.specs.declared.left.Left.{Left}
use Rattle.tpl_checker.specs.Left.{left_by}
use Rattle.tpl_checker.specs.Assumptions.{assumed_of, both, nothing_assumed, with_kept, with_ended}

and_true : (b : Bool) → b ≡ b && true
and_true true = refl
and_true false = refl

-- an item within the list is the same whatever stands for one past it
pub whatever_past : {A : Type 0} (xs : List A) (i : ℕ) (d e : A) → i < length xs → slice_index_or xs i d ≡ slice_index_or xs i e
whatever_past [] i d e lt = absurd (omega arith)
whatever_past (x ∷ xs) zero d e lt = refl
whatever_past (x ∷ xs) (suc i) d e lt = whatever_past xs i d e (omega arith)

-- the values that an input may have, once one is ruled out
pub possible_set : (xs : List Possible) (i : ℕ) (p d : Possible) (value : Bool) → i < length xs → ((b : Bool) → may_have p b ≡ (may_have (slice_index_or xs i d) b && same value b)) → (j : ℕ) (b : Bool) → may_have (slice_index_or (slice_set xs i p) j both) b ≡ (may_have (slice_index_or xs j both) b && (not (nat_eq i j) || same value b))
possible_set xs i p d value lt h j b = elim (eqb_tells i j) [
  | inl (e, q) ↦
      ap (λ z. may_have z b) (subst (λ z. slice_index_or (slice_set xs i p) z both ≡ p) q (get_or-set_same xs i p both lt))
      ∙ (h b ∙ (ap (λ z. may_have z b && same value b) (whatever_past xs i d both lt ∙ ap (λ z. slice_index_or xs z both) q) ∙ ap (λ z. may_have (slice_index_or xs j both) b && (not z || same value b)) (sym e)))
  | inr (e, n) ↦
      ap (λ z. may_have z b) (get_or-set_other xs i j p both (λ q. n (sym q)))
      ∙ (and_true (may_have (slice_index_or xs j both) b) ∙ ap (λ z. may_have (slice_index_or xs j both) b && (not z || same value b)) (sym e))
]

-- tests that agree on each value make the same assumptions
pub with_possible : (a : Assumptions) (xs : List Possible) (i : ℕ) (value : Bool) → ((j : ℕ) (b : Bool) → may_have (slice_index_or xs j both) b ≡ (may_have (slice_index_or a.inputs j both) b && (not (nat_eq i j) || same value b))) → assumed_of (record a { inputs = xs }) ≡ with_input (assumed_of a) i value
with_possible a xs i value h = λ k. record (assumed_of a) { possible = λ j b. h j b k }

-- a list of one value has it everywhere, and past its end
pub replicate_same : {A : Type 0} (n j : ℕ) (d : A) → slice_index_or (replicate n d) j d ≡ d
replicate_same zero j d = refl
replicate_same (suc n) zero d = refl
replicate_same (suc n) (suc j) d = replicate_same n j d

-- empty sets leave each end
pub all_left : (c : Left) → c.not_ran ≡ [] → c.not_canceled ≡ [] → c.not_faulted ≡ [] → (t : ℕ) (f : Final) → left_by c t f ≡ true
all_left c r a f t RanToCompletion = ap (λ z. not (mem t z)) r
all_left c r a f t Canceled = ap (λ z. not (mem t z)) a
all_left c r a f t Faulted = ap (λ z. not (mem t z)) f

kept_one : (new old there back keeps : Bool) → new ≡ (not keeps && there || old) → there ≡ back → not new ≡ (not old && (not back || keeps))
kept_one new old there back keeps e f = grind arith

-- one task loses all ends but these
pub kept_left : (old new : Left) (t : ℕ) (ends : Finals) → ((x : ℕ) → mem x new.not_ran ≡ (not ends.ran && nat_eq x t || mem x old.not_ran)) → ((x : ℕ) → mem x new.not_canceled ≡ (not ends.canceled && nat_eq x t || mem x old.not_canceled)) → ((x : ℕ) → mem x new.not_faulted ≡ (not ends.faulted && nat_eq x t || mem x old.not_faulted)) → (s : ℕ) (f : Final) → left_by new s f ≡ (left_by old s f && (not (nat_eq t s) || has ends f))
kept_left old new t ends r c a s RanToCompletion = kept_one (mem s new.not_ran) (mem s old.not_ran) (nat_eq s t) (nat_eq t s) ends.ran (r s) (same_either_way s t)
kept_left old new t ends r c a s Canceled = kept_one (mem s new.not_canceled) (mem s old.not_canceled) (nat_eq s t) (nat_eq t s) ends.canceled (c s) (same_either_way s t)
kept_left old new t ends r c a s Faulted = kept_one (mem s new.not_faulted) (mem s old.not_faulted) (nat_eq s t) (nat_eq t s) ends.faulted (a s) (same_either_way s t)

-- on the branch of a split on an end
pub with_left : (a : Assumptions) (left : Left) (t : ℕ) (f : Final) (ends : Finals) → ((e : Final) → has ends e ≡ is_final f e) → ((s : ℕ) (e : Final) → left_by left s e ≡ (left_by a.left s e && (not (nat_eq t s) || has ends e))) → assumed_of (record a { left = left }) ≡ with_end (assumed_of a) t f
with_left a left t f ends only h = λ k. record (assumed_of a) { left = λ s e. (h s e ∙ ap (λ z. left_by a.left s e && (not (nat_eq t s) || z)) (only e)) k }

-- where one more task ends in some of the ways
pub with_kept_left : (a : Assumptions) (left : Left) (t : ℕ) (ends : Finals) → ((s : ℕ) (e : Final) → left_by left s e ≡ (left_by a.left s e && (not (nat_eq t s) || has ends e))) → assumed_of (record a { left = left }) ≡ with_kept (assumed_of a) t ends
with_kept_left a left t ends h = λ k. record (assumed_of a) { left = λ s e. h s e k }

-- where the end of one more task is given
pub with_given_left : (a : Assumptions) (left : Left) (t : ℕ) (ends : Finals) → ((s : ℕ) (e : Final) → left_by left s e ≡ (left_by a.ended s e && (not (nat_eq t s) || has ends e))) → assumed_of (record a { ended = left }) ≡ with_ended (assumed_of a) t ends
with_given_left a left t ends h = λ k. record (assumed_of a) { ended = λ s e. h s e k }

-- from no entry and no set
pub none_assumed : (a : Assumptions) → a.inputs ≡ replicate 16 both → a.quiet ≡ replicate 32 false → ((t : ℕ) (f : Final) → left_by a.left t f ≡ true) → ((t : ℕ) (f : Final) → left_by a.ended t f ≡ true) → a.sure ≡ replicate 256 false → assumed_of a ≡ nothing_assumed
none_assumed a is quiet left ended sure =
    λ k. record {
      possible = λ j b. (ap (λ z. may_have (slice_index_or z j both) b) is ∙ (ap (λ z. may_have z b) (replicate_same 16 j both) ∙ both_has b)) k;
      quiet = λ j. (ap (λ z. slice_index_or z j false) quiet ∙ replicate_same 32 j false) k;
      left = λ t f. left t f k;
      ended = λ t f. ended t f k;
      sure = λ j. (ap (λ z. slice_index_or z j false) sure ∙ replicate_same 256 j false) k;
    }
  where
    both_has : (b : Bool) → may_have both b ≡ true
    both_has true = refl
    both_has false = refl
