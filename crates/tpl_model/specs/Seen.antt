-- What a list of statements in memory is seen as.
use Rattle.std.specs.Prelude.{List, [], ◌∷◌}
use Rattle.tpl_model.specs.declared.body.Stmt.{Stmt}
use Rattle.tpl_model.specs.declared.body.Stmt.TheVariants as stmt
use Rattle.tpl_model.specs.Statements.{Statement, Statements, Return, Throw, Check, Cancel, Start, Observe, Work, If, When, Nothing, ◌⨾◌}

-- a statement in memory, without where it lies
abbrev pub statement_of : Stmt → Statement
statement_of stmt.Return = Return
statement_of (stmt.Throw l) = Throw l.0
statement_of (stmt.Check k) = Check k.0
statement_of (stmt.Cancel k) = Cancel k.0
statement_of (stmt.Start c) = Start c.0
statement_of stmt.Observe = Observe
statement_of (stmt.Work s may_fail) = Work s.0 may_fail
statement_of (stmt.If i first second) = If i.0 first second
statement_of (stmt.When f first second) = When f first second

-- a list of statements in memory, without where it lies
abbrev pub statements_of : List Stmt → Statements
statements_of [] = Nothing
statements_of (s ∷ rest) = statement_of s ⨾ statements_of rest
