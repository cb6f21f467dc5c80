-- The pieces of which the grammar is made: what a JSON value is part by part, `None` where it is of another form.
use Rattle.std.specs.Prelude.{◌≡◌, ℕ, List, [], ◌∷◌, Option, Some, None, Result, Ok, Err, Bool, true, false, ◌&&◌, ◌||◌, option_and_then, option_map, is_some, if◌then◌else◌}
use Rattle.std.specs.Str.{bytes_eq}
use Rattle.serde_json.specs.Data.{Data, Items, no_items, item, Members, no_members, member, object}
use Rattle.serde_json.specs.Find.{get, as_str, as_bool, as_array}
use Rattle.tpl_json.specs.declared.miss.Miss.{Miss}
use Rattle.tpl_json.specs.declared.miss.Shape.{Shape}
use Rattle.tpl_json.specs.declared.miss.Miss.TheVariants as misses

-- What a function returned, seen by view, is what reading gives, unless memory ran out.
abbrev pub Misses : {Y : Type 0} → Miss Shape → Option Y → Type 0
Misses misses.Memory read = Unit {0}
Misses (misses.Wrong u) read = read ≡ None

abbrev pub Gives : {X Y : Type 0} → (X → Y) → Result X (Miss Shape) → Option Y → Type 0
Gives view (Ok x) read = read ≡ Some (view x)
Gives view (Err e) read = Misses e read

-- the error is a wrong shape, the only one of a function that takes no memory
abbrev pub IsShape : Miss Shape → Type 0
IsShape (misses.Wrong u) = Unit {0}
IsShape misses.Memory = ⊥

-- what the next step makes of it
infixl 10 ◌>>=◌ ◌<$>◌ ◌<*>◌
abbrev pub ◌>>=◌ : {A B : Type 0} → Option A → (A → Option B) → Option B
o >>= f = option_and_then f o

-- what is made of one part, and of the next ones
abbrev pub ◌<$>◌ : {A B : Type 0} → (A → B) → Option A → Option B
f <$> o = option_map f o

abbrev pub ◌<*>◌ : {A B : Type 0} → Option (A → B) → Option A → Option B
made <*> o = made >>= λ f. option_map f o

-- nothing but that this is true
abbrev pub only_if : Bool → Option (Unit {0})
only_if b = if b then Some tt else None

-- ---- members

-- the name is one of these
abbrev pub is_one_of : List (List ℕ) → List ℕ → Bool
is_one_of [] key = false
is_one_of (name ∷ names) key = bytes_eq key name || is_one_of names key

-- the name of each member passes the test
abbrev pub names_all : (List ℕ → Bool) → Members → Bool
names_all p no_members = true
names_all p (member key d ms) = p key && names_all p ms

-- the members have no other names
abbrev pub members_within : List (List ℕ) → Members → Bool
members_within names ms = names_all (is_one_of names) ms

-- an object with no other members
unfoldable pub has_only : List (List ℕ) → Data → Bool
has_only names (object ms) = members_within names ms
has_only names d = false

-- what is read of an object with no members but these
abbrev pub object_of : {A : Type 0} → List (List ℕ) → Data → Option A → Option A
object_of names d read = if has_only names d then read else None

-- the member, a text
unfoldable pub text_in : List ℕ → Data → Option (List ℕ)
text_in name d = get name d >>= as_str

-- the member is there
abbrev pub has_member : List ℕ → Data → Bool
has_member name d = is_some (get name d)

-- the member, true or false
abbrev pub bool_in : List ℕ → Data → Option Bool
bool_in name d = get name d >>= as_bool

-- ---- arrays

-- the elements as a list
abbrev pub elements : Items → List Data
elements no_items = []
elements (item d ds) = d ∷ elements ds

-- the elements of an array
abbrev pub list_in : Data → Option (List Data)
list_in d = option_map elements (as_array d)

-- an array that may be left out
unfoldable pub list_or_none : Option Data → Option (List Data)
list_or_none None = Some []
list_or_none (Some d) = list_in d

-- each element is of this form
unfoldable pub each : {A : Type 0} → (Data → Option A) → List Data → Option (List A)
each f [] = Some []
each f (d ∷ ds) = do
  x ← f d
  xs ← each f ds
  Some (x ∷ xs)

-- the texts of an array that may be left out
unfoldable pub texts_in : List ℕ → Data → Option (List (List ℕ))
texts_in name d = list_or_none (get name d) >>= each as_str
