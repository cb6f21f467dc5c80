-- The entries of a trace (Trace Event Format), each a JSON object.
use Rattle.std.specs.Prelude.{ℕ, List, codes}
use Rattle.serde_json.specs.Data.{Data, string, number, unsigned, object, no_members, member}

-- a number as a JSON value
abbrev pub number_data : ℕ → Data
number_data n = number (unsigned n)

-- all is done in one process
abbrev pub process : Data
process = number_data 1

abbrev pub named : List ℕ → Data
named name = object (member (codes "name") (string name) no_members)

-- how the process is called
abbrev pub process_mark : List ℕ → Data
process_mark name =
    object (member (codes "args") (named name) (member (codes "name") (string (codes "process_name")) (member (codes "ph") (string (codes "M")) (member (codes "pid") process no_members))))

-- how a track is called
abbrev pub track_mark : List ℕ → (track : ℕ) → Data
track_mark name track =
    object (member (codes "args") (named name) (member (codes "name") (string (codes "thread_name")) (member (codes "ph") (string (codes "M")) (member (codes "pid") process (member (codes "tid") (number_data track) no_members)))))

-- a slice of a track begins (phase B) or ends (phase E)
abbrev pub slice_mark : (phase name : List ℕ) → (track time : ℕ) → Data
slice_mark phase name track time =
    object (member (codes "name") (string name) (member (codes "ph") (string phase) (member (codes "pid") process (member (codes "tid") (number_data track) (member (codes "ts") (number_data time) no_members)))))

-- an instant of a track
abbrev pub instant_mark : (name : List ℕ) → (track time : ℕ) → Data
instant_mark name track time =
    object (member (codes "name") (string name) (member (codes "ph") (string (codes "i")) (member (codes "pid") process (member (codes "s") (string (codes "t")) (member (codes "tid") (number_data track) (member (codes "ts") (number_data time) no_members))))))

-- an arrow with this number starts here
abbrev pub arrow_start : (id track time : ℕ) → Data
arrow_start id track time =
    object (member (codes "cat") (string (codes "release")) (member (codes "id") (number_data id) (member (codes "name") (string (codes "release")) (member (codes "ph") (string (codes "s")) (member (codes "pid") process (member (codes "tid") (number_data track) (member (codes "ts") (number_data time) no_members)))))))

-- an arrow with this number ends here
abbrev pub arrow_end : (id track time : ℕ) → Data
arrow_end id track time =
    object (member (codes "bp") (string (codes "e")) (member (codes "cat") (string (codes "release")) (member (codes "id") (number_data id) (member (codes "name") (string (codes "release")) (member (codes "ph") (string (codes "f")) (member (codes "pid") process (member (codes "tid") (number_data track) (member (codes "ts") (number_data time) no_members))))))))
