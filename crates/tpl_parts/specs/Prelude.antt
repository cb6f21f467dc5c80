-- The definitions that sources cite, passed on from one place. Declares nothing.
pub use Rattle.tpl_parts.specs.Claims.{claim_at, end_or_job, ended_at, final_claim, given_at, given_word, input_at, later_given, pair_said, property_at, runs_claim, said_at, some_finals, task_said, two_texts}
pub use Rattle.tpl_parts.specs.Ends.{has_ends}
pub use Rattle.tpl_parts.specs.Pieces.{name_at}
pub use Rattle.tpl_parts.specs.Remarks.{claim_name, is_claim_name, note_at}
pub use Rattle.tpl_parts.specs.SeenClaims.{claim_of, given_of, property_of}
pub use Rattle.tpl_parts.specs.SeenStart.{start_of}
pub use Rattle.tpl_parts.specs.Start.{Tests, all_values, has_truths, start_at, start_or_none, truths_or_none}
pub use Rattle.tpl_parts.specs.Statements.{body_at, body_of, bool_or_false, branch_at, else_at, if_at, list_at, object_at, simple_at, statement_at, when_at, word_at}
pub use Rattle.tpl_parts.specs.Tasks.{args_at, free_at, kind_at, linked_at, option_at, options_at, plain_at, task_at, text_or_none, then_at, token_at}
pub use Rattle.tpl_parts.specs.Versions.{claim_remarks, has_links, is_third, rules_since, task_remarks}
