-- The data that a value read from a text stands for.
use Rattle.std.specs.Prelude.{Option, Some, None}
use Rattle.std.specs.declared.alloc.Global.{Global}
use Rattle.json.specs.Json as json
use Rattle.json.specs.Value.{value_view}
use Rattle.json.specs.declared.value.Value as text
use Rattle.serde_json.specs.Data.{Num, Data, null, boolean, number, string, array, object, Items, no_items, item, Members, no_members, put}
use Rattle.serde_json.specs.Read.{number_of}

-- a value of JSON, whose texts are those of the text that was read
abbrev pub Value : Type 0
Value = text.Value Global

-- a number, and null for one out of range
abbrev pub number_or_null : Option Num → Data
number_or_null None = null
number_or_null (Some n) = number n

-- the data of JSON: of several members of one name the last stays
abbrev mutual
  pub data_of : json.Json → Data
  data_of json.null = null
  data_of (json.boolean b) = boolean b
  data_of (json.number s) = number_or_null (number_of s)
  data_of (json.string s) = string s
  data_of (json.array js) = array (items_from js)
  data_of (json.object ms) = object (members_from ms no_members)

  pub items_from : json.Items → Items
  items_from json.no_items = no_items
  items_from (json.item j js) = item (data_of j) (items_from js)

  pub members_from : json.Members → Members → Members
  members_from json.no_members found = found
  members_from (json.member k j ms) found = members_from ms (put k (data_of j) found)

-- the data that a value stands for
abbrev pub view : Value → Data
view v = data_of (value_view v)
