-- The definitions that sources cite, passed on from one place. Declares nothing.
pub use Rattle.tpl_commands.specs.Auditing.{IsAuditAnswer, IsAuditOf, IsAudited, IsNoJournalText, run_exit, run_text, verdict_exit, verdict_text}
pub use Rattle.tpl_commands.specs.Certifying.{IsCertifying, IsObject, IsSized, IsTextOfObject, IsWholeText}
pub use Rattle.tpl_commands.specs.Checking.{ClaimsHold, IsAccepted, IsCheckOf, IsRefusal, IsVerdict, IsVerdictText, NamesTask}
pub use Rattle.tpl_commands.specs.Documents.{NoDocument}
pub use Rattle.tpl_commands.specs.Drawing.{AreEndings, IsDrawing, IsMoment, IsMomentOf, IsShown, failing_in, place_shown}
pub use Rattle.tpl_commands.specs.Exit.{exit_code, is_verdict}
pub use Rattle.tpl_commands.specs.Finding.{IsAnswer, IsAnswerTo, IsAskedFor, IsFindingOf, IsFoundFor, IsFoundOf}
pub use Rattle.tpl_commands.specs.Loading.{Loads, RequestsTokens}
pub use Rattle.tpl_commands.specs.Proof.{IsRead, proof_data, rules_for, trees_of}
pub use Rattle.tpl_commands.specs.Recorded.{ended_of, times_of}
pub use Rattle.tpl_commands.specs.Responding.{NoAnswer, Puts, Reads, Responds, Says}
pub use Rattle.tpl_commands.specs.Rules.{rules_of}
pub use Rattle.tpl_commands.specs.Searching.{IsBackWhereRead, IsFoundBy, IsOutcomeText, IsProofOf, IsSearchOf, IsSearching}
pub use Rattle.tpl_commands.specs.Serving.{Accepted, Audited, Certified, Found, Proved, Serves, answers_of}
pub use Rattle.tpl_commands.specs.Texts.{claim_fails, ended, not_allowed, not_found, refused_claim, refused_leaf, refused_shape, rule_name, task_ended, unreadable, unreadable_at, unreadable_graph, unreadable_part, unreadable_start}
pub use Rattle.tpl_commands.specs.Unreadable.{IsUnreadable, claim_word, graph_word, options_word, shape_text, start_word, tree_word}
