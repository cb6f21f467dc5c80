-- Texts that are written one after another.
use Rattle.std.proofs.Common.{◌≡◌, ℕ, ◌+◌, ◌<◌, ◌≤◌, true, List, [], ◌∷◌, ◌++◌, length, get_or, take, drop, flat_map, Option, Some, None, refl, sym, ap, ◌∙◌, subst, append_assoc, append-nil}
use Rattle.std.specs.Prelude.{Result, Ok, Err, IsErrAnd}
use Rattle.std.specs.Io.KnownBytes.{Appends}
use Rattle.std.proofs.lemmas.List.{take_more, take_all, take-append-drop}
use Rattle.std.proofs.lemmas.Grind.{flat_map-append}
use Rattle.tpl_journal.specs.declared.counting.Counting.{Counting}
use Rattle.tpl_journal.specs.declared.writing.WriteFault.{WriteFault}
use Rattle.tpl_journal.specs.Counting.{counted, contents_of}
use Rattle.tpl_journal.specs.Writing.{AppendsFront, Writes, StopsIn, WritesText}
use Rattle.tpl_journal.proofs.WrittenLemmas.{appends_then, front_then}

same_kept : (a : Option (List ℕ)) → Appends a a []
same_kept None = tt
same_kept (Some xs) = sym (append-nil xs)

module _ {W : Type 0} (contents : W → Option (List ℕ)) where
  -- nothing was written yet
  pub nothing_written : (a : Counting W) → Writes contents a a []
  nothing_written a = record { whole = same_kept (contents_of contents a); failures = refl }

  -- one text after another
  pub then_written : (a b c : Counting W) (xs ys : List ℕ) → Writes contents a b xs → Writes contents b c ys → Writes contents a c (xs ++ ys)
  then_written a b c xs ys first second = record {
    whole = appends_then (contents_of contents a) (contents_of contents b) (contents_of contents c) xs ys first.whole second.whole;
    failures = second.failures ∙ first.failures;
  }

  stops_behind : (a b c : Counting W) (xs ys : List ℕ) → Writes contents a b xs → StopsIn contents b c ys → StopsIn contents a c (xs ++ ys)
  stops_behind a b c xs ys first stop = record {
    front = subst (AppendsFront (contents_of contents a) (contents_of contents c)) (ap (λ z. xs ++ z) (append-nil ys))
        (front_then (contents_of contents a) (contents_of contents b) (contents_of contents c) xs ys [] first.whole stop.front);
    failures = stop.failures ∙ ap (counted true) first.failures;
  }

  -- the last text ends as the call does
  pub then_text : (a b c : Counting W) (xs ys : List ℕ) (r : Result (Unit {0}) WriteFault) → Writes contents a b xs → WritesText contents b c ys r → WritesText contents a c (xs ++ ys) r
  then_text a b c xs ys (Ok x) first second = record { ok = then_written a b c xs ys first second.ok; err = tt }
  then_text a b c xs ys (Err e) first second = record { ok = tt; err = stops_behind a b c xs ys first second.err }

  -- a write failed, which is answered
  pub failed : (a b : Counting W) (text : List ℕ) (r : Result (Unit {0}) WriteFault) (fault : WriteFault) → r ≡ Err fault → StopsIn contents a b text → WritesText contents a b text r
  failed a b text r fault is stop =
      subst (λ (x : Result (Unit {0}) WriteFault). WritesText contents a b text x) (sym is) (record { ok = tt; err = stop })

  -- a write failed, and the rest isn't written
  pub stopped : (a b : Counting W) (xs ys : List ℕ) (r : Result (Unit {0}) WriteFault) (fault : WriteFault) → r ≡ Err fault → StopsIn contents a b xs → WritesText contents a b (xs ++ ys) r
  stopped a b xs ys r fault is stop = failed a b (xs ++ ys) r fault is (record {
    front = front_then (contents_of contents a) (contents_of contents a) (contents_of contents b) [] xs ys (same_kept (contents_of contents a)) stop.front;
    failures = stop.failures;
  })

  -- the same of what a `?` gives back
  pub stops : (a b : Counting W) (xs ys : List ℕ) (r : Result (Unit {0}) WriteFault) (Q : WriteFault → Type 0) → IsErrAnd r Q → StopsIn contents a b xs → WritesText contents a b (xs ++ ys) r
  stops a b xs ys (Ok x) Q wrong stop = absurd wrong
  stops a b xs ys (Err fault) Q is stop = stopped a b xs ys (Err fault) fault refl stop

  pub as_text : (a b : Counting W) (xs ys : List ℕ) (r : Result (Unit {0}) WriteFault) → xs ≡ ys → WritesText contents a b xs r → WritesText contents a b ys r
  as_text a b xs ys r e is = subst (λ (text : List ℕ). WritesText contents a b text r) e is

  -- ---- the texts of the elements of a list, one after another

  module _ {A : Type 0} (f : A → List ℕ) (xs : List A) (i : ℕ) where
    of_more : (d : A) → i < length xs → flat_map f (take (i + 1) xs) ≡ flat_map f (take i xs) ++ f (get_or xs i d)
    of_more d lt =
        ap (flat_map f) (take_more xs i d lt)
        ∙ (flat_map-append f (take i xs) (get_or xs i d ∷ []) ∙ ap (λ z. flat_map f (take i xs) ++ z) (append-nil (f (get_or xs i d))))

    of_all : (d : A) → i < length xs → flat_map f (take i xs) ++ (f (get_or xs i d) ++ flat_map f (drop (i + 1) xs)) ≡ flat_map f xs
    of_all d lt =
        sym (append_assoc (flat_map f (take i xs)) (f (get_or xs i d)) (flat_map f (drop (i + 1) xs)))
        ∙ (ap (λ z. z ++ flat_map f (drop (i + 1) xs)) (sym (of_more d lt))
        ∙ (sym (flat_map-append f (take (i + 1) xs) (drop (i + 1) xs)) ∙ ap (flat_map f) (take-append-drop (i + 1) xs)))

    pub each_more : (a b c : Counting W) (d : A) → i < length xs → Writes contents a b (flat_map f (take i xs)) → Writes contents b c (f (get_or xs i d)) → Writes contents a c (flat_map f (take (i + 1) xs))
    each_more a b c d lt so_far one =
        subst (Writes contents a c) (sym (of_more d lt)) (then_written a b c (flat_map f (take i xs)) (f (get_or xs i d)) so_far one)

    pub each_stops : (a b c : Counting W) (d : A) (r : Result (Unit {0}) WriteFault) (Q : WriteFault → Type 0) → i < length xs → IsErrAnd r Q → Writes contents a b (flat_map f (take i xs)) → StopsIn contents b c (f (get_or xs i d)) → WritesText contents a c (flat_map f xs) r
    each_stops a b c d r Q lt is so_far stop =
        as_text a c (flat_map f (take i xs) ++ (f (get_or xs i d) ++ flat_map f (drop (i + 1) xs))) (flat_map f xs) r (of_all d lt)
        (then_text a b c (flat_map f (take i xs)) (f (get_or xs i d) ++ flat_map f (drop (i + 1) xs)) r so_far (stops b c (f (get_or xs i d)) (flat_map f (drop (i + 1) xs)) r Q is stop))

    pub each_written : (a b : Counting W) → length xs ≤ i → Writes contents a b (flat_map f (take i xs)) → WritesText contents a b (flat_map f xs) (Ok tt)
    each_written a b le so_far = record { ok = subst (λ (ys : List A). Writes contents a b (flat_map f ys)) (take_all i xs le) so_far; err = tt }
