-- The answers to lines, each with its number.
use Rattle.std.specs.Prelude.{ℕ, ◌+◌, ◌==◌, Bool, true, false, if◌then◌else◌, List, [], ◌∷◌, ◌++◌, codes, decimal}
use Rattle.std.specs.List.{AllZip, list_all}
use Rattle.tpl_commands.specs.declared.exit.Exit.{Exit}
use Rattle.tpl_commands.specs.declared.exit.Exit.TheVariants.{Success, Failure}
use Rattle.tpl_commands.specs.Exit.{exit_code}
use Rattle.tpl_commands.specs.Responding.{Answers, Says}

-- what a command says to a document, and how it would end with that
pub record Said : Type 0 where
  pub exit : Exit
  pub text : List ℕ

-- to each line that is said which the command says to a document of these bytes
abbrev pub AreSaid : Answers → List (List ℕ) → List Said → Type 0
AreSaid answers = AllZip (λ line said. Says answers line said.exit said.text)

-- what stands before each line of an answer: the number of its document, and its exit status
abbrev pub head : ℕ → Exit → List ℕ
head number exit = ((decimal number ++ codes " ") ++ decimal (exit_code exit)) ++ codes " "

-- the text with this before each of its lines; whether a line begins where the text does
abbrev pub headed : List ℕ → Bool → List ℕ → List ℕ
headed before begins [] = []
headed before true (c ∷ text) = before ++ (c ∷ headed before (c == 10) text)
headed before false (c ∷ text) = c ∷ headed before (c == 10) text

-- what is written for the document of this number
abbrev pub written : ℕ → Said → List ℕ
written number said = headed (head number said.exit) true said.text

-- what is written for the documents from this number on
abbrev pub numbered : ℕ → List Said → List ℕ
numbered number [] = []
numbered number (said ∷ more) = written number said ++ numbered (number + 1) more

-- the answer is yes
abbrev pub is_yes : Exit → Bool
is_yes exit = exit_code exit == 0

-- success, where each answer is yes
abbrev pub exit_of : List Said → Exit
exit_of all = if list_all (λ said. is_yes said.exit) all then Success else Failure
