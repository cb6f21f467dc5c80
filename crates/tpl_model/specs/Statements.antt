-- The statements of a body, without where they lie in memory. Ids are shown by their numbers.
use Rattle.std.specs.Prelude.{ℕ, ◌++◌, Bool, true, false, ◌&&◌, List, [], ◌∷◌}
use Rattle.tpl_model.specs.declared.finals.Final.{Final}

mutual
  -- a statement of a body
  pub data Statement : Type 0 where
    Return : Statement
    Throw : (label : ℕ) → Statement
    Check : (token : ℕ) → Statement
    Cancel : (token : ℕ) → Statement
    Start : (child : ℕ) → Statement
    Observe : Statement
    Work : (site : ℕ) → (may_fail : Bool) → Statement
    If : (input : ℕ) → (first : Statements) → (second : Statements) → Statement
    When : (final : Final) → (first : Statements) → (second : Statements) → Statement

  -- a list of statements
  pub data Statements : Type 0 where
    Nothing : Statements
    ◌⨾◌ : Statement → Statements → Statements

infixr 5 ◌⨾◌
-- a list, then what follows it
abbrev pub followed_by : Statements → Statements → Statements
followed_by Nothing more = more
followed_by (s ⨾ rest) more = s ⨾ followed_by rest more

-- the children that a list can start, in the order of its text
abbrev mutual
  pub starts : Statements → List ℕ
  starts Nothing = []
  starts (s ⨾ rest) = starts_of s ++ starts rest

  pub starts_of : Statement → List ℕ
  starts_of (Start c) = c ∷ []
  starts_of (If i first second) = starts first ++ starts second
  starts_of (When f first second) = starts first ++ starts second
  starts_of s = []

-- the sites of its jobs, in the order of its text
abbrev mutual
  pub sites : Statements → List ℕ
  sites Nothing = []
  sites (s ⨾ rest) = sites_of s ++ sites rest

  pub sites_of : Statement → List ℕ
  sites_of (Work site may_fail) = site ∷ []
  sites_of (If i first second) = sites first ++ sites second
  sites_of (When f first second) = sites first ++ sites second
  sites_of s = []

-- no statement reads how the subject ended, or its exception
abbrev mutual
  pub reads_nothing : Statements → Bool
  reads_nothing Nothing = true
  reads_nothing (s ⨾ rest) = reads_nothing_in s && reads_nothing rest

  pub reads_nothing_in : Statement → Bool
  reads_nothing_in Observe = false
  reads_nothing_in (When f first second) = false
  reads_nothing_in (If i first second) = reads_nothing first && reads_nothing second
  reads_nothing_in s = true
