-- The data of JSON, part by part.
use Rattle.std.proofs.Common.{◌≡◌, ℕ, ◌&&◌, List, [], ◌∷◌, ◌++◌, map, Bool, true, false, cond, Option, Some, None, option_map, option_and_then, is_some, Ordering, Less, Equal, Greater, refl, sym, ap, ◌∙◌, true≢false}
use Rattle.std.specs.List.{list_all}
use Rattle.std.specs.Prelude.{MatchOption}
use Rattle.std.specs.Borrow.{Bor}
use Rattle.std.specs.Str.{bytes_eq}
use Rattle.std.specs.Ordering.{nat_cmp, match_ordering}
use Rattle.std.specs.Cmp.Lexicographic.{slice_cmp}
use Rattle.std.proofs.lemmas.Map.Text.{is_eq-slice_cmp}
use Rattle.std.proofs.lemmas.Slice.Eq.{bytes_eq-Decides}
use Rattle.tpl_model.proofs.Truths.{and_true}
use Rattle.json.specs.Token.{Token}
use Rattle.json.specs.Lex.{tokens}
use Rattle.json.specs.Json as json
use Rattle.json.specs.Find as json_find
use Rattle.json.specs.Value.{items_view, members_view}
use Rattle.serde_json.specs.Data.{Num, Data, array, object, Items, item, Members, no_members, member, put}
use Rattle.serde_json.specs.Find.{get, get_member, as_str, as_bool, as_number}
use Rattle.serde_json.specs.Read.{number_of, of_json, of_items, of_members, read}
use Rattle.serde_json.proofs.Views.{get_member-put, get_member-put_other}
use Rattle.tpl_json.specs.View.{Value, number_or_null, data_of, items_from, members_from, view}
use Rattle.tpl_json.specs.Numbers.{in_range, items_in_range, members_in_range}
use Rattle.tpl_json.specs.Members.{elements, list_in, names_all}

-- ---- numbers

str_of_number : (o : Option Num) → as_str (number_or_null o) ≡ None
str_of_number None = refl
str_of_number (Some n) = refl

bool_of_number : (o : Option Num) → as_bool (number_or_null o) ≡ None
bool_of_number None = refl
bool_of_number (Some n) = refl

list_of_number : (o : Option Num) → list_in (number_or_null o) ≡ None
list_of_number None = refl
list_of_number (Some n) = refl

get_of_number : (name : List ℕ) (o : Option Num) → get name (number_or_null o) ≡ None
get_of_number name None = refl
get_of_number name (Some n) = refl

number_of_number : (o : Option Num) → as_number (number_or_null o) ≡ o
number_of_number None = refl
number_of_number (Some n) = refl

pub number_is : (s : List ℕ) → as_number (data_of (json.number s)) ≡ number_of s
number_is s = number_of_number (number_of s)

-- ---- texts and truths

pub text_is : (j : json.Json) → as_str (data_of j) ≡ json_find.as_str j
text_is json.null = refl
text_is (json.boolean b) = refl
text_is (json.number s) = str_of_number (number_of s)
text_is (json.string s) = refl
text_is (json.array js) = refl
text_is (json.object ms) = refl

pub truth_is : (j : json.Json) → as_bool (data_of j) ≡ json_find.as_bool j
truth_is json.null = refl
truth_is (json.boolean b) = refl
truth_is (json.number s) = bool_of_number (number_of s)
truth_is (json.string s) = refl
truth_is (json.array js) = refl
truth_is (json.object ms) = refl

-- ---- arrays

pub elements_view : (vs : List Value) → elements (items_from (items_view vs)) ≡ map view vs
elements_view [] = refl
elements_view (v ∷ vs) = ap (λ ds. view v ∷ ds) (elements_view vs)

-- ---- objects

abbrev or_else : Option Data → Option Data → Option Data
or_else (Some d) e = Some d
or_else None e = e

put_found : (name k : List ℕ) (j : json.Json) (found : Members) (same : Bool) → bytes_eq k name ≡ same
    → get_member name (put k (data_of j) found) ≡ or_else (option_map data_of (cond same (Some j) None)) (get_member name found)
put_found name k j found true e =
    let is : k ≡ name = (bytes_eq-Decides k name).0 e in
    ap (λ n. get_member n (put k (data_of j) found)) (sym is) ∙ get_member-put k (data_of j) found
put_found name k j found false e =
    get_member-put_other name k (data_of j) found (λ is. true≢false (sym ((bytes_eq-Decides k name).1 (sym is)) ∙ e))

later : (o here : Option json.Json) (e r : Option Data) → e ≡ or_else (option_map data_of here) r
    → or_else (option_map data_of o) e ≡ or_else (option_map data_of (json_find.later_or o here)) r
later (Some j) here e r h = refl
later None here e r h = h

get_from : (name : List ℕ) (ms : json.Members) (found : Members)
    → get_member name (members_from ms found) ≡ or_else (option_map data_of (json_find.get_member name ms)) (get_member name found)
get_from name json.no_members found = refl
get_from name (json.member k j ms) found =
    get_from name ms (put k (data_of j) found)
    ∙ later (json_find.get_member name ms) (cond (bytes_eq k name) (Some j) None) (get_member name (put k (data_of j) found)) (get_member name found)
    (put_found name k j found (bytes_eq k name) refl)

or_none : (o : Option Data) → or_else o None ≡ o
or_none None = refl
or_none (Some d) = refl

pub member_is : (name : List ℕ) (j : json.Json) → get name (data_of j) ≡ option_map data_of (json_find.get name j)
member_is name json.null = refl
member_is name (json.boolean b) = refl
member_is name (json.number s) = get_of_number name (number_of s)
member_is name (json.string s) = refl
member_is name (json.array js) = refl
member_is name (json.object ms) = get_from name ms no_members ∙ or_none (option_map data_of (json_find.get_member name ms))

-- ---- names of members

and_again : (a b : Bool) → (a && b) ≡ (a && (a && b))
and_again true b = refl
and_again false b = refl

and_turn : (a b c : Bool) → (a && (b && c)) ≡ (b && (a && c))
and_turn true true c = refl
and_turn true false c = refl
and_turn false true c = refl
and_turn false false c = refl

pub keys_same : (k l : List ℕ) → slice_cmp nat_cmp k l ≡ Equal → k ≡ l
keys_same k l is = (bytes_eq-Decides k l).0 (sym (is_eq-slice_cmp k l) ∙ rw is)

names_put_at : (o : Ordering) (p : List ℕ → Bool) (k l : List ℕ) (d e : Data) (ms : Members) → slice_cmp nat_cmp k l ≡ o
    → names_all p (put k d ms) ≡ (p k && names_all p ms)
    → names_all p (match_ordering o (member k d (member l e ms)) (member l d ms) (member l e (put k d ms))) ≡ (p k && (p l && names_all p ms))
names_put_at Less p k l d e ms is later = refl
names_put_at Equal p k l d e ms is later =
    let same = keys_same k l is in
    ap (λ n. p n && names_all p ms) (sym same)
    ∙ and_again (p k) (names_all p ms)
    ∙ ap (λ n. p k && (p n && names_all p ms)) same
names_put_at Greater p k l d e ms is later =
    ap (λ b. p l && b) later ∙ and_turn (p l) (p k) (names_all p ms)

names_put : (p : List ℕ → Bool) (k : List ℕ) (d : Data) (ms : Members) → names_all p (put k d ms) ≡ (p k && names_all p ms)
names_put p k d no_members = refl
names_put p k d (member l e ms) = names_put_at (slice_cmp nat_cmp k l) p k l d e ms refl (names_put p k d ms)

and_moved : (a b c : Bool) → (a && (b && c)) ≡ ((b && a) && c)
and_moved true true c = refl
and_moved true false c = refl
and_moved false true c = refl
and_moved false false c = refl

names_from : (p : List ℕ → Bool) (es : List (Bor (List ℕ) × Value)) (found : Members)
    → names_all p (members_from (members_view es) found) ≡ (list_all (λ m. p m.0.now) es && names_all p found)
names_from p [] found = refl
names_from p (e ∷ es) found =
    names_from p es (put e.0.now (view e.1) found)
    ∙ ap (λ b. list_all (λ m. p m.0.now) es && b) (names_put p e.0.now (view e.1) found)
    ∙ and_moved (list_all (λ m. p m.0.now) es) (p e.0.now) (names_all p found)

-- the names of an object are those of its members as they stand in the text
pub names_are : (p : List ℕ → Bool) (es : List (Bor (List ℕ) × Value)) → names_all p (members_from (members_view es) no_members) ≡ list_all (λ m. p m.0.now) es
names_are p es = names_from p es no_members ∙ and_true (list_all (λ m. p m.0.now) es)

-- one member more is put into those before it
pub members_more : (es : List (Bor (List ℕ) × Value)) (e : Bor (List ℕ) × Value) (found : Members)
    → members_from (members_view (es ++ e ∷ [])) found ≡ put e.0.now (view e.1) (members_from (members_view es) found)
members_more [] e found = refl
members_more (x ∷ es) e found = members_more es e (put x.0.now (view x.1) found)

-- ---- what serde_json reads

abbrev if_so : {A : Type 0} → Bool → A → Option A
if_so true a = Some a
if_so false a = None

of_number : (o : Option Num) → option_map Data.number o ≡ if_so (is_some o) (number_or_null o)
of_number None = refl
of_number (Some n) = refl

item_of : (a b : Bool) (d : Data) (ds : Items) → option_and_then (λ x. option_map (item x) (if_so b ds)) (if_so a d) ≡ if_so (a && b) (item d ds)
item_of true true d ds = refl
item_of true false d ds = refl
item_of false b d ds = refl

array_of : (a : Bool) (ds : Items) → option_map array (if_so a ds) ≡ if_so a (array ds)
array_of true ds = refl
array_of false ds = refl

object_of : (a : Bool) (ms : Members) → option_map object (if_so a ms) ≡ if_so a (object ms)
object_of true ms = refl
object_of false ms = refl

member_of : (a b : Bool) (k : List ℕ) (d : Data) (found ds : Members) (next : Members → Option Members) → next (put k d found) ≡ if_so b ds
    → option_and_then (λ x. next (put k x found)) (if_so a d) ≡ if_so (a && b) ds
member_of true b k d found ds next e = e
member_of false b k d found ds next e = refl

mutual
  pub read_is : (j : json.Json) → of_json j ≡ if_so (in_range j) (data_of j)
  read_is json.null = refl
  read_is (json.boolean b) = refl
  read_is (json.number s) = of_number (number_of s)
  read_is (json.string s) = refl
  read_is (json.array js) = ap (option_map array) (items_read js) ∙ array_of (items_in_range js) (items_from js)
  read_is (json.object ms) = ap (option_map object) (members_read ms no_members) ∙ object_of (members_in_range ms) (members_from ms no_members)

  items_read : (js : json.Items) → of_items js ≡ if_so (items_in_range js) (items_from js)
  items_read json.no_items = refl
  items_read (json.item j js) =
      ap (λ o. option_and_then (λ x. option_map (item x) o) (of_json j)) (items_read js)
      ∙ ap (option_and_then (λ x. option_map (item x) (if_so (items_in_range js) (items_from js)))) (read_is j)
      ∙ item_of (in_range j) (items_in_range js) (data_of j) (items_from js)

  members_read : (ms : json.Members) (found : Members) → of_members ms found ≡ if_so (members_in_range ms) (members_from ms found)
  members_read json.no_members found = refl
  members_read (json.member k j ms) found =
      ap (option_and_then (λ x. of_members ms (put k x found))) (read_is j)
      ∙ member_of (in_range j) (members_in_range ms) k (data_of j) found (members_from ms (put k (data_of j) found)) (of_members ms) (members_read ms (put k (data_of j) found))

-- ---- whole texts

pub read_more : (text : List ℕ) (j : json.Json) (t : Token) (r : List Token) → json.value 127 (tokens text) ≡ Some (j, t ∷ r) → read text ≡ None
read_more text j t r e = rw e

-- what a next token, or none, says of the tokens that were left
pub token_behind : {T : Type 0} (token : T → Token) (next : Option T) (ts rest : List Token) → MatchOption next ((ts ≡ []) × (rest ≡ [])) (λ t. ts ≡ token t ∷ rest) → true ≡ is_some next → (t : Token) × (r : List Token) × (ts ≡ t ∷ r)
token_behind token None ts rest e is = absurd (cc)
token_behind token (Some t) ts rest e is = (token t, rest, e)

pub none_behind : {T : Type 0} (token : T → Token) (next : Option T) (ts rest : List Token) → MatchOption next ((ts ≡ []) × (rest ≡ [])) (λ t. ts ≡ token t ∷ rest) → false ≡ is_some next → ts ≡ []
none_behind token None ts rest e is = e.0
none_behind token (Some t) ts rest e is = absurd (cc)

pub read_last : (text : List ℕ) (j : json.Json) → json.value 127 (tokens text) ≡ Some (j, []) → in_range j ≡ true → read text ≡ Some (data_of j)
read_last text j e f = rw e (read_is j ∙ rw f)

pub read_out : (text : List ℕ) (j : json.Json) → json.value 127 (tokens text) ≡ Some (j, []) → in_range j ≡ false → read text ≡ None
read_out text j e f = rw e (read_is j ∙ rw f)
