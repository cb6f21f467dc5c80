use Rattle.std.proofs.Common.{◌≡◌, ◌&&◌, ◌||◌, not, nat_eq, ap, ◌∙◌}
use Rattle.tpl_model.proofs.MemberLemmas.{same_either_way}
use Rattle.tpl_model.specs.declared.finals.Final.TheVariants.{RanToCompletion, Faulted}
use Rattle.tpl_model.specs.Options.{allows}
use Rattle.tpl_model.specs.Recursion.{must_observe}
use Rattle.tpl_model.specs.Graph.{body, options}
use Rattle.tpl_model.specs.Certificate.{is_loud}
use Rattle.tpl_model.specs.TokenRules.{kind_left}
use Rattle.tpl_laws.specs.RowTests.{continues, faulted_view}
use Rattle.tpl_laws.specs.TokenTests.{is_won_by, reads_winner}
use Rattle.tpl_token_leaf.specs.Leaf.{graph_of, assumed_in}
use Rattle.tpl_token_check.proofs.ReaderLemmas.{and_turned}
use Rattle.tpl_token_check.proofs.readers.read_after.Goals as goal

pub returns : goal.returns
returns c y =
    let g = graph_of c.args.leaf.now in
    let l = assumed_in c.args.leaf.now in
    let r = c.args.reader.0 in
    let a = c.args.antecedent.0 in
    let reads = not (is_loud g l.assumed r) && must_observe (faulted_view g l.assumed r) (body g r) in
    let faulted : c.both.result ≡ (allows (options g r) Faulted && reads) = c.both.ensures ∙ (λ i. (c.allows.ensures ∙ ap (λ o. allows o Faulted) c.options-options.ensures) i && c.reads_it-reads.ensures i) in
    let ran : c.both-after_winner.result ≡ (allows (options g r) RanToCompletion && reads) = c.both-after_winner.ensures ∙ (λ i. (c.allows-2.ensures ∙ ap (λ o. allows o RanToCompletion) c.options-options.ensures) i && c.reads_it-reads.ensures i) in
    c.union.ensures.members y
    ∙ ((λ i. (c.one_if-itself.ensures y ∙ ((λ j. faulted j && same_either_way y a j) ∙ and_turned (allows (options g r) Faulted && reads) (nat_eq a y))) i
    || (c.all_if.ensures y ∙ ((λ j. ran j && c.sole_winner.ensures y j) ∙ and_turned (allows (options g r) RanToCompletion && reads) (is_won_by (kind_left g l a) y))) i)
    ∙ ap (λ k. (continues y k && (allows (options g r) Faulted && reads)) || reads_winner g l r y k) c.requires.kind)
