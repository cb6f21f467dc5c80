-- The definitions that sources cite, passed on from one place. Declares nothing.
pub use Rattle.tpl_draw.specs.Below.{below}
pub use Rattle.tpl_draw.specs.Edges.{acts, acts_of, edge, edge_token, edges, from_each, is_crowded, owners, owns, task_edges, token_edges}
pub use Rattle.tpl_draw.specs.Endings.{EndingsAreTrue, JoinsEnds, either, endings, ends, no_ends, tree_ends}
pub use Rattle.tpl_draw.specs.Language.{enclosed}
pub use Rattle.tpl_draw.specs.Legend.{agree, are_same, ending_entry, ending_words, entries, entry, failing_words, frame_closing, frame_opening, framed, legend, moment_text, moment_words, painted_endings}
pub use Rattle.tpl_draw.specs.Marks.{paint, painted, status_paint}
pub use Rattle.tpl_draw.specs.Picture.{begins_at_token, classes, closing, edge_line, ends_at_token, is_plain, label, label_of, lazy_word, line_word, lines_below, name_of, opening, picture, quoted, sort_word, start_text, start_word, synchronous_word, task_lines, task_name, task_node, token_line, token_line_at, token_node}
pub use Rattle.tpl_draw.specs.Shapes.{look_of}
pub use Rattle.tpl_draw.specs.Shown.{border, border_line, has_border, is_named, line_break, mark, paint_of, stands, status_line}
