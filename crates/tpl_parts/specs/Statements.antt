-- The body that a JSON value is, `None` where it is none.
use Rattle.std.specs.Prelude.{ℕ, zero, suc, List, [], ◌∷◌, Option, Some, None, Bool, false, codes, if◌then◌else◌}
use Rattle.std.specs.Str.{bytes_eq}
use Rattle.serde_json.specs.Data.{Data, string, object}
use Rattle.serde_json.specs.Find.{get, as_bool}
use Rattle.tpl_json.specs.Members.{◌>>=◌, ◌<$>◌, ◌<*>◌, object_of, has_member, text_in, list_in, each}
use Rattle.tpl_json.specs.Finals.{final_at}
use Rattle.tpl_parts.specs.Pieces.{name_at}
use Rattle.tpl_draft.specs.Draft.{Line, Lines, Return, Throw, Check, Cancel, Start, Observe, Work, If, When, Nothing, Then}

-- a list of statements as a body
abbrev pub body_of : List Line → Lines
body_of [] = Nothing
body_of (s ∷ rest) = Then s (body_of rest)

-- "return" or "observe"
unfoldable pub word_at : List ℕ → Option Line
word_at word = if bytes_eq word (codes "return") then Some Return else (if bytes_eq word (codes "observe") then Some Observe else None)

-- true or false, and false where it isn't there
unfoldable pub bool_or_false : Option Data → Option Bool
bool_or_false None = Some false
bool_or_false (Some d) = as_bool d

-- {"work": site, "may_fail": true or false}, of which the second may be left out
unfoldable pub work_at : Data → Option Line
work_at d = object_of (codes "work" ∷ codes "may_fail" ∷ []) d ((λ site may_fail. Work site may_fail) <$> text_in (codes "work") d <*> bool_or_false (get (codes "may_fail") d))

-- {"throw": label}, {"check": token}, {"cancel": token}, {"start": child} or a job
unfoldable pub simple_at : Data → Option Line
simple_at d =
    if has_member (codes "throw") d then Throw <$> name_at (codes "throw") d
    else if has_member (codes "check") d then Check <$> name_at (codes "check") d
    else if has_member (codes "cancel") d then Cancel <$> name_at (codes "cancel") d
    else if has_member (codes "start") d then Start <$> name_at (codes "start") d
    else work_at d

-- the list that may be left out; `inner` reads the two lists
unfoldable pub else_at : (Data → Option Lines) → Option Data → Option Lines
else_at inner None = Some Nothing
else_at inner (Some d) = inner d

-- the list that has to be there
abbrev pub then_at : (Data → Option Lines) → Data → Option Lines
then_at inner d = get (codes "then") d >>= inner

-- {"if": input, "then": body, "else": body}
unfoldable pub if_at : (Data → Option Lines) → Data → Option Line
if_at inner d = object_of (codes "if" ∷ codes "then" ∷ codes "else" ∷ []) d ((λ input first second. If input first second) <$> text_in (codes "if") d <*> then_at inner d <*> else_at inner (get (codes "else") d))

-- {"when": final status, "then": body, "else": body}
unfoldable pub when_at : (Data → Option Lines) → Data → Option Line
when_at inner d = object_of (codes "when" ∷ codes "then" ∷ codes "else" ∷ []) d ((λ status first second. When status first second) <$> (get (codes "when") d >>= final_at) <*> then_at inner d <*> else_at inner (get (codes "else") d))

-- a choice by an input, or by how the subject ended
unfoldable pub branch_at : (Data → Option Lines) → Data → Option Line
branch_at inner d = if has_member (codes "if") d then if_at inner d else when_at inner d

-- what has a member `then` is a choice
unfoldable pub object_at : (Data → Option Lines) → Data → Option Line
object_at inner d = if has_member (codes "then") d then branch_at inner d else simple_at d

-- a statement is a word or an object
unfoldable pub statement_at : (Data → Option Lines) → Data → Option Line
statement_at inner (string word) = word_at word
statement_at inner (object ms) = object_at inner (object ms)
statement_at inner d = None

-- a list of statements
unfoldable pub list_at : (Data → Option Lines) → Data → Option Lines
list_at inner d = body_of <$> (list_in d >>= each (statement_at inner))

-- the same, with lists in lists to this depth
unfoldable pub body_at : ℕ → Data → Option Lines
body_at zero d = None
body_at (suc n) d = list_at (body_at n) d
