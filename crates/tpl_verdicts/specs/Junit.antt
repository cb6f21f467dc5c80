-- The verdicts as test cases, in the form of JUnit.
use Rattle.std.specs.Prelude.{◌≡◌, ℕ, ◌-◌, ◌==◌, List, ◌++◌, codes, decimal, flat_map, length, map, string_bytes, if◌then◌else◌}
use Rattle.std.specs.Char.{encode_utf8}
use Rattle.tpl_draft.specs.Named.{Names}
use Rattle.tpl_reasons.specs.Spelling.{spelled_by}
use Rattle.tpl_verify.specs.declared.verdict.Verdict.{Verdict}
use Rattle.tpl_verdicts.specs.declared.entry.Entry.{Entry}
use Rattle.tpl_verdicts.specs.declared.word.Word.{Word}
use Rattle.tpl_verdicts.specs.declared.word.Word.TheVariants.{Holds, Fails, Empty, Unknown}
use Rattle.tpl_verdicts.specs.Told.{Told}
use Rattle.tpl_verdicts.specs.Words.{count_of, word_of, word_text}
use Rattle.tpl_verdicts.specs.Lines.{AreNumbered, IsEntry}

-- what is said where a claim doesn't hold, or says nothing
abbrev pub message : Word → List ℕ
message Holds = codes "it holds"
message Fails = codes "it fails in a run"
message Empty = codes "it holds, and says nothing"
message Unknown = codes "neither a certificate nor a run in which it fails was found"

-- a failure with these lines
abbrev pub failure_text : Word → List ℕ → List ℕ
failure_text word lines =
    codes "><failure type=\"" ++ (word_text word ++ (codes "\" message=\"" ++ (message word ++ (codes "\">" ++ (lines ++ codes "</failure></testcase>\n")))))

-- how a test case ends: without a failure, where the claim holds and isn't known to be empty
abbrev pub outcome_text : Word → List ℕ → List ℕ
outcome_text Holds lines = codes "/>\n"
outcome_text Fails lines = failure_text Fails lines
outcome_text Empty lines = failure_text Empty lines
outcome_text Unknown lines = failure_text Unknown lines

-- the character that stands for one that XML has no place for
abbrev pub replacement : ℕ
replacement = 0xFFFD

-- a character that isn't a control character, as it stands in XML, between tags or in an attribute. XML has no place for
-- U+FFFE and U+FFFF
abbrev pub xml_letter : ℕ → List ℕ
xml_letter c =
    if c == 38 then codes "&amp;"
    else (if c == 60 then codes "&lt;" else (if c == 62 then codes "&gt;" else (if c == 34 then codes "&quot;"
    else (if c == 0xFFFE then encode_utf8 replacement else (if c == 0xFFFF then encode_utf8 replacement else encode_utf8 c)))))

-- the text as it stands in XML
abbrev pub xml : List ℕ → List ℕ
xml text = spelled_by xml_letter text

-- the test case of a claim
abbrev pub case_text : Entry → List ℕ
case_text entry =
    codes "<testcase classname=\"claims\" name=\"claim " ++ (decimal entry.number ++ (xml (string_bytes entry.title) ++ (codes ": " ++ (xml (string_bytes entry.words) ++ (codes "\" time=\"0\"" ++ outcome_text entry.word (flat_map (λ line. xml (string_bytes line)) entry.lines.items))))))

-- what stands before the first test case
abbrev pub opening : List Word → List ℕ
opening words =
    codes "<?xml version=\"1.0\" encoding=\"UTF-8\"?>\n<testsuites>\n<testsuite package=\"taskgraph\" id=\"0\" name=\"claims\" timestamp=\"1970-01-01T00:00:00\" hostname=\"localhost\" tests=\"" ++ (decimal (length words) ++ (codes "\" failures=\"" ++ (decimal (length words - count_of words Holds) ++ codes "\" errors=\"0\" time=\"0\">\n<properties/>\n")))

-- what stands behind the last one
abbrev pub closing : List ℕ
closing = codes "<system-out/>\n<system-err/>\n</testsuite>\n</testsuites>\n"

-- the text has a test case for each claim, which says what its verdict says, in their order
abbrev pub IsJunit : Names → List Told → List Verdict → List ℕ → Type 0
IsJunit names claims verdicts text =
    (entries : List Entry) × AreNumbered (IsEntry names) 1 claims entries
    × (text ≡ opening (map word_of verdicts) ++ flat_map case_text entries ++ closing)
