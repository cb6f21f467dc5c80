-- The loops over a list of statements that collect what they name.
use Rattle.std.proofs.Common.{◌≡◌, ℕ, ◌+◌, ◌<◌, ◌≤◌, Bool, true, false, ◌||◌, ◌++◌, List, [], ◌∷◌, length, drop, get_or, flat_map, refl, sym, ap, ◌∙◌, append_assoc, append-nil}
use Rattle.std.proofs.lemmas.List.{drop_all}
use Rattle.tpl_model.proofs.Truths.{or_false}
use Rattle.tpl_draft.specs.declared.draft.DraftStmt.{DraftStmt}
use Rattle.tpl_draft.specs.Draft.{Line, Lines, each_of, each_within}
use Rattle.tpl_draft.specs.SeenDraft.{line_of, lines_of}
use Rattle.tpl_draft.specs.Names.{has_name, with_name, with_names, twice_after}
use Rattle.tpl_draft.proofs.AskLemmas.{split_at}

pub flat_map_append : {A B : Type 0} (f : A → List B) (xs ys : List A) → flat_map f (xs ++ ys) ≡ flat_map f xs ++ flat_map f ys
flat_map_append f [] ys = refl
flat_map_append f (x ∷ xs) ys = ap (λ l. f x ++ l) (flat_map_append f xs ys) ∙ sym (append_assoc (f x) (flat_map f xs) (flat_map f ys))

pub with_names-append : (n xs ys : List (List ℕ)) → with_names n (xs ++ ys) ≡ with_names (with_names n xs) ys
with_names-append n [] ys = refl
with_names-append n (x ∷ xs) ys = with_names-append (with_name n x) xs ys

or_assoc : (a b c : Bool) → (a || (b || c)) ≡ ((a || b) || c)
or_assoc true b c = refl
or_assoc false b c = refl

pub twice_after-append : (n xs ys : List (List ℕ)) → twice_after n (xs ++ ys) ≡ (twice_after n xs || twice_after (with_names n xs) ys)
twice_after-append n [] ys = refl
twice_after-append n (x ∷ xs) ys =
    ap (λ b. has_name n x || b) (twice_after-append (with_name n x) xs ys)
    ∙ or_assoc (has_name n x) (twice_after (with_name n x) xs) (twice_after (with_names (with_name n x) xs) ys)

-- what a function gives of each statement from an index on
abbrev pub rest_of : {B : Type 0} → (Line → List B) → List DraftStmt → ℕ → List B
rest_of f items i = flat_map f (each_of (lines_of (drop i items)))

abbrev pub part_of : {B : Type 0} → (Line → List B) → DraftStmt → List B
part_of f x = flat_map f (line_of x ∷ each_within (line_of x))

pub rest_split : {B : Type 0} (f : Line → List B) (items : List DraftStmt) (i : ℕ) (x : DraftStmt) → i < length items → x ≡ get_or items i x → rest_of f items i ≡ part_of f x ++ rest_of f items (i + 1)
rest_split f items i x lt is =
    ap (λ b. flat_map f (each_of b)) (split_at items i x lt is)
    ∙ flat_map_append f (line_of x ∷ each_within (line_of x)) (each_of (lines_of (drop (i + 1) items)))

-- the names of the statements before an index are added
pub record AddedTo (f : Line → List (List ℕ)) (body : Lines) (items : List DraftStmt) (i : ℕ) (start now : List (List ℕ)) (twice : Bool) : Type 0 where
  pub whole : lines_of items ≡ body
  pub made : with_names now (rest_of f items i) ≡ with_names start (flat_map f (each_of body))
  pub again : (twice || twice_after now (rest_of f items i)) ≡ twice_after start (flat_map f (each_of body))

pub none_added : (f : Line → List (List ℕ)) (body : Lines) (items : List DraftStmt) (start : List (List ℕ)) → lines_of items ≡ body → AddedTo f body items 0 start start false
none_added f body items start e = record {
  whole = e;
  made = ap (λ b. with_names start (flat_map f (each_of b))) e;
  again = ap (λ b. twice_after start (flat_map f (each_of b))) e;
}

pub one_added : (f : Line → List (List ℕ)) (body : Lines) (items : List DraftStmt) (i : ℕ) (start now new : List (List ℕ)) (twice again either : Bool) (x : DraftStmt) → i < length items → x ≡ get_or items i x → AddedTo f body items i start now twice → new ≡ with_names now (part_of f x) → again ≡ twice_after now (part_of f x) → either ≡ (twice || again) → AddedTo f body items (i + 1) start new either
one_added f body items i start now new twice again either x lt is at new_is again_is either_is = record {
  whole = at.whole;
  made =
      ap (λ n. with_names n (rest_of f items (i + 1))) new_is
      ∙ (sym (with_names-append now (part_of f x) (rest_of f items (i + 1)))
      ∙ (ap (with_names now) (sym (rest_split f items i x lt is)) ∙ at.made));
  again =
      ap (λ b. b || twice_after new (rest_of f items (i + 1))) (either_is ∙ ap (λ b. twice || b) again_is)
      ∙ (ap (λ n. (twice || twice_after now (part_of f x)) || twice_after n (rest_of f items (i + 1))) new_is
      ∙ (sym (or_assoc twice (twice_after now (part_of f x)) (twice_after (with_names now (part_of f x)) (rest_of f items (i + 1))))
      ∙ (ap (λ b. twice || b) (sym (twice_after-append now (part_of f x) (rest_of f items (i + 1))))
      ∙ (ap (λ l. twice || twice_after now l) (sym (rest_split f items i x lt is)) ∙ at.again))));
}

pub all_added : (f : Line → List (List ℕ)) (body : Lines) (items : List DraftStmt) (i : ℕ) (start now : List (List ℕ)) (twice : Bool) → length items ≤ i → AddedTo f body items i start now twice → (now ≡ with_names start (flat_map f (each_of body))) × (twice ≡ twice_after start (flat_map f (each_of body)))
all_added f body items i start now twice le at = (
  sym (ap (λ l. with_names now (flat_map f (each_of (lines_of l)))) (drop_all i items le)) ∙ at.made,
  sym (or_false twice) ∙ (sym (ap (λ l. twice || twice_after now (flat_map f (each_of (lines_of l)))) (drop_all i items le)) ∙ at.again),
)

-- two lists in turn
pub both_added : (f : Line → List (List ℕ)) (a b : Lines) (n first second : List (List ℕ)) → first ≡ with_names n (flat_map f (each_of a)) → second ≡ with_names first (flat_map f (each_of b)) → second ≡ with_names n (flat_map f (each_of a ++ each_of b))
both_added f a b n first second e g =
    g ∙ (ap (λ l. with_names l (flat_map f (each_of b))) e
    ∙ (sym (with_names-append n (flat_map f (each_of a)) (flat_map f (each_of b))) ∙ ap (with_names n) (sym (flat_map_append f (each_of a) (each_of b)))))

pub both_again : (f : Line → List (List ℕ)) (a b : Lines) (n first : List (List ℕ)) (s t : Bool) → first ≡ with_names n (flat_map f (each_of a)) → s ≡ twice_after n (flat_map f (each_of a)) → t ≡ twice_after first (flat_map f (each_of b)) → (s || t) ≡ twice_after n (flat_map f (each_of a ++ each_of b))
both_again f a b n first s t e es et =
    ap (λ x. x || t) es ∙ (ap (λ x. twice_after n (flat_map f (each_of a)) || x) (et ∙ ap (λ l. twice_after l (flat_map f (each_of b))) e)
    ∙ (sym (twice_after-append n (flat_map f (each_of a)) (flat_map f (each_of b))) ∙ ap (twice_after n) (sym (flat_map_append f (each_of a) (each_of b)))))

-- what the statements before an index name is behind what stood there
pub record CollectedTo {B : Type 0} (f : Line → List B) (body : Lines) (items : List DraftStmt) (i : ℕ) (start now : List B) : Type 0 where
  pub whole : lines_of items ≡ body
  pub made : now ++ rest_of f items i ≡ start ++ flat_map f (each_of body)

pub none_collected : {B : Type 0} (f : Line → List B) (body : Lines) (items : List DraftStmt) (start : List B) → lines_of items ≡ body → CollectedTo f body items 0 start start
none_collected f body items start e = record { whole = e; made = ap (λ b. start ++ flat_map f (each_of b)) e }

pub one_collected : {B : Type 0} (f : Line → List B) (body : Lines) (items : List DraftStmt) (i : ℕ) (start now new : List B) (x : DraftStmt) → i < length items → x ≡ get_or items i x → CollectedTo f body items i start now → new ≡ now ++ part_of f x → CollectedTo f body items (i + 1) start new
one_collected f body items i start now new x lt is at new_is = record {
  whole = at.whole;
  made =
      ap (λ l. l ++ rest_of f items (i + 1)) new_is
      ∙ (append_assoc now (part_of f x) (rest_of f items (i + 1))
      ∙ (ap (λ l. now ++ l) (sym (rest_split f items i x lt is)) ∙ at.made));
}

pub all_collected : {B : Type 0} (f : Line → List B) (body : Lines) (items : List DraftStmt) (i : ℕ) (start now : List B) → length items ≤ i → CollectedTo f body items i start now → now ≡ start ++ flat_map f (each_of body)
all_collected f body items i start now le at =
    sym (append-nil now) ∙ (sym (ap (λ l. now ++ flat_map f (each_of (lines_of l))) (drop_all i items le)) ∙ at.made)

pub both_collected : {B : Type 0} (f : Line → List B) (a b : Lines) (n first second : List B) → first ≡ n ++ flat_map f (each_of a) → second ≡ first ++ flat_map f (each_of b) → second ≡ n ++ flat_map f (each_of a ++ each_of b)
both_collected f a b n first second e g =
    g ∙ (ap (λ l. l ++ flat_map f (each_of b)) e
    ∙ (append_assoc n (flat_map f (each_of a)) (flat_map f (each_of b)) ∙ ap (λ l. n ++ l) (sym (flat_map_append f (each_of a) (each_of b)))))
