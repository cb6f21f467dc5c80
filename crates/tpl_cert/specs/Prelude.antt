-- The definitions that sources cite, passed on from one place. Declares nothing.
pub use Rattle.tpl_cert.specs.Faults.{shape_fault, tree_fault}
pub use Rattle.tpl_cert.specs.Laws.{CertificatesNestLittle}
pub use Rattle.tpl_cert.specs.Naming.{is_declared, number_in, number_of, numbers_in, row_in, rows_in, set_in, tree_in}
pub use Rattle.tpl_cert.specs.Reading.{end_at, input_at, is_least, leaf_at, node_at, row_at, row_names, whole_tree, winner_at}
pub use Rattle.tpl_cert.specs.Seen.{row_of, tree_of}
pub use Rattle.tpl_cert.specs.Spelled.{read_tree, spelled_tree}
pub use Rattle.tpl_cert.specs.Written.{HasRowSets, HasSets, Puts, PutsMembers, PutsValue, Writes, certificate_data, has_ids, has_row_ids, has_task_ids, is_id, leaf_data, name_at, names_data, row_data, row_members, texts_data, tree_data, word_if, words_of}
