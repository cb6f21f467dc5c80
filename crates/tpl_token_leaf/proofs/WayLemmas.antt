-- What all ways have, put together.
use Rattle.std.proofs.Common.{◌≡◌, ◌&&◌, ◌||◌, Bool, true, false, Option, Some, None, refl, sym, ap, ◌∙◌, subst, arith}
use Rattle.tpl_model.proofs.Truths.{and_true}
use Rattle.tpl_model.specs.declared.finals.Final.{Final}
use Rattle.tpl_model.specs.declared.finals.Final.TheVariants.{RanToCompletion, Canceled, Faulted}
use Rattle.tpl_model.specs.declared.finals.Finals.{Finals}
use Rattle.tpl_model.specs.Finals.{has, is_final}
use Rattle.tpl_model.specs.Knowledge.{Fact, Knowledge}
use Rattle.tpl_paths.specs.declared.facts.Facts.{Facts}
use Rattle.tpl_paths.specs.Facts.{has_fact}
use Rattle.tpl_model.specs.TokenRules.{Way, way_final}
use Rattle.tpl_laws.specs.RowTests.{implies, each_end}
use Rattle.tpl_laws.specs.TokenTests.{if_known}
use Rattle.tpl_checker.proofs.Basics.{implies_or}
use Rattle.tpl_token_leaf.specs.declared.ways.Ways.{Ways}
use Rattle.tpl_token_leaf.specs.Ways.{holds_in_all, AreWays}

and_turn : (x y z u v w : Bool) → ((x && u) && ((y && v) && (z && w))) ≡ ((x && (y && z)) && (u && (v && w)))
and_turn x y z u v w = grind arith

pub each_implies : (s : Finals) (p : Final → Bool) (ends : Finals) → ((f : Final) → has s f ≡ p f) → each_end (λ f. implies (has s f) (has ends f)) ≡ each_end (λ f. implies (p f) (has ends f))
each_implies s p ends e =
    λ i. implies (e RanToCompletion i) (has ends RanToCompletion) && (implies (e Canceled i) (has ends Canceled) && implies (e Faulted i) (has ends Faulted))

only : (e : Final) (ends : Finals) → each_end (λ f. implies (is_final e f) (has ends f)) ≡ has ends e
only RanToCompletion ends = and_true ends.ran
only Canceled ends = and_true ends.canceled
only Faulted ends = refl

module _ (holds : Fact → Way → Bool) (r : Ways) where
  pub no_ways : ((f : Final) → has r.ends f ≡ false) → ((fact : Fact) → holds_in_all r.common fact ≡ true) → AreWays (λ (test : Way → Bool). true) holds r
  no_ways e c = record {
    ends = λ ends. sym (each_implies r.ends (λ f. false) ends e);
    common = λ fact. sym (c fact);
  }

  pub one_way : (way : Way) (facts : Facts) → ((f : Final) → has r.ends f ≡ is_final (way_final way) f) → ((fact : Fact) → holds_in_all r.common fact ≡ has_fact facts fact) → ((fact : Fact) → holds fact way ≡ has_fact facts fact)
      → AreWays (λ (test : Way → Bool). test way) holds r
  one_way way facts e c h = record {
    ends = λ ends. sym (each_implies r.ends (is_final (way_final way)) ends e ∙ only (way_final way) ends);
    common = λ fact. h fact ∙ sym (c fact);
  }

  pub joined_ways : (e d : (Way → Bool) → Bool) (a b : Ways) → AreWays e holds a → AreWays d holds b → ((f : Final) → has r.ends f ≡ (has a.ends f || has b.ends f))
      → ((fact : Fact) → holds_in_all r.common fact ≡ (holds_in_all a.common fact && holds_in_all b.common fact)) → AreWays (λ (test : Way → Bool). e test && d test) holds r
  joined_ways e d a b p q re rc = record {
    ends = λ ends. (λ i. p.ends ends i && q.ends ends i) ∙ sym (split ends);
    common = λ fact. (λ i. p.common fact i && q.common fact i) ∙ sym (rc fact);
  }
    where
      one : (ends : Finals) (f : Final) → implies (has r.ends f) (has ends f) ≡ (implies (has a.ends f) (has ends f) && implies (has b.ends f) (has ends f))
      one ends f = ap (λ z. implies z (has ends f)) (re f) ∙ implies_or (has a.ends f) (has b.ends f) (has ends f)

      split : (ends : Finals) → each_end (λ f. implies (has r.ends f) (has ends f)) ≡ (each_end (λ f. implies (has a.ends f) (has ends f)) && each_end (λ f. implies (has b.ends f) (has ends f)))
      split ends =
          (λ i. one ends RanToCompletion i && (one ends Canceled i && one ends Faulted i))
          ∙ and_turn (implies (has a.ends RanToCompletion) (has ends RanToCompletion)) (implies (has a.ends Canceled) (has ends Canceled)) (implies (has a.ends Faulted) (has ends Faulted)) (implies (has b.ends RanToCompletion) (has ends RanToCompletion)) (implies (has b.ends Canceled) (has ends Canceled)) (implies (has b.ends Faulted) (has ends Faulted))

  -- under a test that fails, and one that holds
  pub not_left : (b : Bool) (e : (Way → Bool) → Bool) → b ≡ false → AreWays (λ (test : Way → Bool). true) holds r → AreWays (λ (test : Way → Bool). implies b (e test)) holds r
  not_left true e q w = absurd (cc)
  not_left false e q w = w

  pub is_left : (b : Bool) (e : (Way → Bool) → Bool) → b ≡ true → AreWays e holds r → AreWays (λ (test : Way → Bool). implies b (e test)) holds r
  is_left true e q w = w
  is_left false e q w = absurd (cc)

  -- under a test that is another
  pub under : {b c : Bool} (way : Way) → b ≡ c → AreWays (λ (test : Way → Bool). implies b (test way)) holds r → AreWays (λ (test : Way → Bool). implies c (test way)) holds r
  under way q w = subst (λ (z : Bool). AreWays (λ (test : Way → Bool). implies z (test way)) holds r) q w

  -- under one that holds, where there are no paths, and where there are some
  pub no_paths : (b : Bool) (o : Option Knowledge) (way : Knowledge → Way) → b ≡ true → None ≡ o → AreWays (λ (test : Way → Bool). true) holds r
      → AreWays (λ (test : Way → Bool). implies b (if_known o (λ known. test (way known)))) holds r
  no_paths b None way e q w = is_left b (λ (test : Way → Bool). true) e w
  no_paths b (Some k) way e q w = absurd (cc)

  pub some_paths : (b : Bool) (o : Option Knowledge) (way : Knowledge → Way) → b ≡ true → (known : Knowledge) → Some known ≡ o → AreWays (λ (test : Way → Bool). test (way known)) holds r
      → AreWays (λ (test : Way → Bool). implies b (if_known o (λ k. test (way k)))) holds r
  some_paths b o way e known q w =
      subst (λ (z : Option Knowledge). AreWays (λ (test : Way → Bool). implies b (if_known z (λ k. test (way k)))) holds r) q (is_left b (λ (test : Way → Bool). test (way known)) e w)

-- what holds by one of three
pub or_three : (a b x ab all : Bool) → ab ≡ (a || b) → all ≡ (ab || x) → (a || (b || x)) ≡ all
or_three a b x ab all p q = grind arith
