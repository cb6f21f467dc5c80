-- The definitions that sources cite, passed on from one place. Declares nothing.
pub use Rattle.tpl_reasons.specs.Hidden.{IsShown, is_hidden, turns}
pub use Rattle.tpl_reasons.specs.Reasons.{audit_reason, check_reason, found_reason, reason_of, search_reason, verdict_reason, yes_reason}
pub use Rattle.tpl_reasons.specs.Spelling.{four_digits, said_name, shown_letter, spelled_by}
pub use Rattle.tpl_reasons.specs.Words.{are_all_jobs, claim_words, ends_words, given_word, given_words, input_words, inputs_given, is_of_job, listed, property_words}
