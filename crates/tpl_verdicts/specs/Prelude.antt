-- The definitions that sources cite, passed on from one place. Declares nothing.
pub use Rattle.tpl_verdicts.specs.Answer.{IsExit, IsStyled, IsVerified, Judged, Verified, Verifies}
pub use Rattle.tpl_verdicts.specs.Asked.{AreFirst, IsOneOf, TellsFirst, names_of, told_there}
pub use Rattle.tpl_verdicts.specs.Json.{AreCausesData, IsClaimData, IsFailedData, IsJson, IsNamed, IsNamedData, IsRunData, IsTreeData, cause_data, empty_data, failed_data, held_data, ran_out_word, sums_data, tried_data, unknown_data, verdicts_data, why_data}
pub use Rattle.tpl_verdicts.specs.Html.{IsHtml}
pub use Rattle.tpl_verdicts.specs.Judgements.{AreRight, IsRight}
pub use Rattle.tpl_verdicts.specs.Junit.{IsJunit, case_text, failure_text, message, opening, outcome_text, xml, xml_letter}
pub use Rattle.tpl_verdicts.specs.Lines.{AddsCauses, AreLines, AreNumbered, IsEntry, IsText, entry_text, indented, inputs_lines, run_lines, sums_line, title, why_line}
pub use Rattle.tpl_verdicts.specs.Streaming.{AnswersBytes, BreaksOff, BrokeOff, IsStreamed, PutsStop, PutsSums, Streams}
pub use Rattle.tpl_verdicts.specs.Told.{all_told, told, told_of}
pub use Rattle.tpl_verdicts.specs.Words.{AreSums, SaysHolds, count_of, same_word, word_of, word_text}
