-- Texts that are written character by character.
use Rattle.std.proofs.Common.{◌≡◌, ◌∙◌, ◌++◌, ℕ, List, [], ◌∷◌, ap, map, sym}
use Rattle.std.specs.List.{flat_map}
use Rattle.std.proofs.lemmas.List.{flat_map_more, map-id}

-- one character more
pub spelled_more : (f : ℕ → List ℕ) (yielded : List ℕ) (c : ℕ) (old new : List ℕ) → old ≡ flat_map f yielded → new ≡ old ++ f c → new ≡ flat_map f (yielded ++ c ∷ [])
spelled_more f yielded c old new so_far more = more ∙ (ap (λ z. z ++ f c) so_far ∙ flat_map_more f [] yielded c)

-- all characters
pub spelled_all : (f : ℕ → List ℕ) (letters yielded text : List ℕ) → map (λ x. x) yielded ≡ letters → text ≡ flat_map f yielded → text ≡ flat_map f letters
spelled_all f letters yielded text all is = is ∙ ap (λ z. flat_map f z) (sym (map-id yielded) ∙ all)
