-- A compact text with a line break behind it has the same tokens, and so it is read as the same value.
use Rattle.std.proofs.Common.{◌≡◌, ℕ, Bool, true, false, cond, ◌&&◌, Option, Some, None, option_and_then, List, [], ◌∷◌, ◌++◌, refl, sym, ap, ap₂, ◌∙◌, subst, append_assoc, append-nil, codes}
use Rattle.json.specs.Token.{Token, begin_object, end_object, begin_array, end_array, key, string, number, boolean, null, bad}
use Rattle.json.specs.Word.{ends_word, word}
use Rattle.json.specs.Json.{Json, value, if_last}
use Rattle.json.specs.Tree.{json_tokens}
use Rattle.json.specs.Lex.{Lexeme, token, comma, colon, string_token, lex, between, fresh, punctuate, tokens}
use Rattle.json.specs.Print.{escape, quoted, token_text, begins, ends, print_from, print, IsPrintable, ArePrintable}
use Rattle.json.proofs.Printed.Strings.{content-escape, lex-escape}
use Rattle.json.proofs.Printed.Numbers.{lex-number, in_word-ended}
use Rattle.json.proofs.Printed.Trees.{ArePrintable-json_tokens}
use Rattle.json.proofs.Numbered.{ArePrintableOrBad-tokens, value-HasNumbers}
use Rattle.json.proofs.Unique.Spelling.{value-json_tokens_back}
use Rattle.serde_json.specs.Data.{Data}
use Rattle.serde_json.specs.Read.{read, max_depth, of_json}

abbrev lexemes_of : Token → List Lexeme
lexemes_of begin_object = token begin_object ∷ []
lexemes_of end_object = token end_object ∷ []
lexemes_of begin_array = token begin_array ∷ []
lexemes_of end_array = token end_array ∷ []
lexemes_of (key s) = token (string s) ∷ colon ∷ []
lexemes_of (string s) = token (string s) ∷ []
lexemes_of (number s) = token (number s) ∷ []
lexemes_of (boolean b) = token (boolean b) ∷ []
lexemes_of null = token null ∷ []
lexemes_of bad = []

abbrev lexemes : Bool → List Token → List Lexeme
lexemes c [] = []
lexemes c (t ∷ ts) = cond (c && begins t) (comma ∷ []) [] ++ (lexemes_of t ++ lexemes (ends t) ts)

-- after a value stands a comma, a closing bracket, or what follows all
ends_before : (ts : List Token) (r : List ℕ) → ends_word r ≡ true → ends_word (print_from true ts ++ r) ≡ true
unfolding print_from
ends_before [] r e = e
ends_before (begin_object ∷ ts) r e = refl
ends_before (end_object ∷ ts) r e = refl
ends_before (begin_array ∷ ts) r e = refl
ends_before (end_array ∷ ts) r e = refl
ends_before (key s ∷ ts) r e = refl
ends_before (string s ∷ ts) r e = refl
ends_before (number s ∷ ts) r e = refl
ends_before (boolean b ∷ ts) r e = refl
ends_before (null ∷ ts) r e = refl
ends_before (bad ∷ ts) r e = refl

lex-quoted : (s r : List ℕ) → lex between (quoted s ++ r) ≡ token (string s) ∷ lex between r
unfolding lex
lex-quoted s r =
    let e = append_assoc (escape s) (34 ∷ []) r in
    ap (λ l. lex between (34 ∷ l)) e ∙ ap₂ (λ o l. token (string_token o) ∷ l) (content-escape s r) (lex-escape s r)

lex-token : (t : Token) (r : List ℕ) → IsPrintable t → (ends t ≡ true → ends_word r ≡ true) → lex between (token_text t ++ r) ≡ lexemes_of t ++ lex between r
unfolding lex word
lex-token begin_object r h ended = refl
lex-token end_object r h ended = refl
lex-token begin_array r h ended = refl
lex-token end_array r h ended = refl
lex-token (key s) r h ended = ap (lex between) (append_assoc (quoted s) (58 ∷ []) r) ∙ lex-quoted s (58 ∷ r)
lex-token (string s) r h ended = lex-quoted s r
lex-token (number s) r h ended = lex-number s r h (ended refl)
lex-token (boolean true) r h ended = ap₂ (λ b l. token (cond b (boolean true) bad) ∷ l) (ended refl) (in_word-ended r (ended refl))
lex-token (boolean false) r h ended = ap₂ (λ b l. token (cond b (boolean false) bad) ∷ l) (ended refl) (in_word-ended r (ended refl))
lex-token null r h ended = ap₂ (λ b l. token (cond b null bad) ∷ l) (ended refl) (in_word-ended r (ended refl))
lex-token bad r h ended = absurd h

lex-comma : (b : Bool) (r : List ℕ) → lex between (cond b (44 ∷ []) [] ++ r) ≡ cond b (comma ∷ []) [] ++ lex between r
unfolding lex
lex-comma true r = refl
lex-comma false r = refl

lex-before : (c : Bool) (ts : List Token) (r : List ℕ) → ArePrintable ts → ends_word r ≡ true → lex between (print_from c ts ++ r) ≡ lexemes c ts ++ lex between r
unfolding lex print_from ArePrintable
lex-before c [] r h e = refl
lex-before c (t ∷ ts) r h e =
    let front = cond (c && begins t) (44 ∷ []) [] in
    let commas : List Lexeme = cond (c && begins t) (comma ∷ []) [] in
    let rest = print_from (ends t) ts in
    ap (lex between) (append_assoc front (token_text t ++ rest) r ∙ ap (λ l. front ++ l) (append_assoc (token_text t) rest r))
    ∙ lex-comma (c && begins t) (token_text t ++ (rest ++ r))
    ∙ ap (λ l. commas ++ l)
    (lex-token t (rest ++ r) h.0 (λ is. ap (λ b. ends_word (print_from b ts ++ r)) is ∙ ends_before ts r e)
    ∙ ap (λ l. lexemes_of t ++ l) (lex-before (ends t) ts r h.1 e)
    ∙ sym (append_assoc (lexemes_of t) (lexemes (ends t) ts) (lex between r)))
    ∙ sym (append_assoc commas (lexemes_of t ++ lexemes (ends t) ts) (lex between r))

same_tokens : (ts : List Token) → ArePrintable ts → tokens (print ts ++ codes "\n") ≡ tokens (print ts)
unfolding lex
same_tokens ts h = ap (punctuate fresh) (lex-before false ts (codes "\n") h refl ∙ sym (lex-before false ts [] h refl) ∙ ap (lex between) (append-nil (print ts)))

are_printable : (text : List ℕ) (d : Data) (o : Option (Json × List Token)) → value max_depth (tokens text) ≡ o → option_and_then of_json (option_and_then (λ p. if_last p.0 p.1) o) ≡ Some d → ArePrintable (tokens text)
are_printable text d None e is = absurd cc
are_printable text d (Some (j, [])) e is =
    subst ArePrintable (sym (value-json_tokens_back max_depth (tokens text) [] j e ∙ append-nil (json_tokens j)))
    (ArePrintable-json_tokens j (value-HasNumbers max_depth (tokens text) [] j (ArePrintableOrBad-tokens text) e))
are_printable text d (Some (j, t ∷ ts)) e is = absurd cc

pub read_with_line_break : (text : List ℕ) (d : Data) → text ≡ print (tokens text) → read text ≡ Some d → read (text ++ codes "\n") ≡ Some d
read_with_line_break text d compact is =
    let same = ap (λ s. tokens (s ++ codes "\n")) compact ∙ same_tokens (tokens text) (are_printable text d (value max_depth (tokens text)) refl is) ∙ ap tokens (sym compact) in
    ap (λ ts. option_and_then of_json (option_and_then (λ p. if_last p.0 p.1) (value max_depth ts))) same ∙ is
