-- What the rules without tokens accept is true, since those with tokens accept it too.
use Rattle.tpl_model.specs.declared.rule_set.RuleSet.TheVariants.{WithoutTokens, WithTokens}
use Rattle.std.proofs.Common.{◌≡◌, true, false, refl, subst}
use Rattle.tpl_model.specs.Graph.{TaskGraph}
use Rattle.tpl_model.specs.declared.ids.TaskId.{TaskId}
use Rattle.tpl_model.specs.declared.claim.Property.{Property}
use Rattle.tpl_model.specs.declared.finals.Final.TheVariants.{RanToCompletion, Canceled, Faulted}
use Rattle.tpl_model.specs.Certificate.{Tree, OnInput, OnEnd, OnWinner, RowsLeaf, LeastLeaf, AcceptsTree, assumed_for}
use Rattle.tpl_model.specs.TokenRules.{LeafAssumed, input_split, end_split}
use Rattle.tpl_laws.specs.ByRules.{SoundByRules}
use Rattle.tpl_laws.specs.Soundness.{Soundness}
use Rattle.tpl_laws.specs.TokenTrees.{written}
use Rattle.tpl_laws.specs.SoundnessWithTokens.{HasRows, SomeLeafIsTrue, TokenSoundness}
use Rattle.tpl_laws.proofs.MainTheorem.{given_agrees}
use Rattle.tpl_laws.proofs.TokenLaw.{tree_accepted, tokens_accept_more_lem}
use Rattle.tpl_laws.proofs.TokenSound.{some_leaf, token_rows_lem, token_soundness_lem}

-- the rules without tokens accept no more than those with tokens
pub soundness_lem : Soundness
soundness_lem g claims trees valid acc v h run = token_soundness_lem g claims trees valid (tokens_accept_more_lem g claims trees acc) v h run

-- no leaf of such a tree leaves its rows out
all_written : (g : TaskGraph) (p : Property TaskId) (l : LeafAssumed) (tree : Tree) → AcceptsTree g p l.assumed tree → written g p l tree ≡ tree
all_written g p l (OnInput i a b) acc = rw (all_written g p (input_split l i true) a acc.1, all_written g p (input_split l i false) b acc.2) refl
all_written g p l (OnEnd t a b c) acc =
    rw (all_written g p (end_split l t RanToCompletion) a acc.1, all_written g p (end_split l t Canceled) b acc.2, all_written g p (end_split l t Faulted) c acc.3) refl
all_written g p l (OnWinner n x a b) acc = absurd acc
all_written g p l (RowsLeaf rows) acc = refl
all_written g p l LeastLeaf acc = absurd acc

pub some_leaf_lem : SomeLeafIsTrue
some_leaf_lem g claim tree v h valid acc run given =
    let l : LeafAssumed = record { assumed = assumed_for WithoutTokens g claim; wins = λ n x. true } in
    let agrees = given_agrees g v h claim.given given in
    let leaf = some_leaf g claim.body v h valid run l tree (record { agrees = agrees; winners = λ n x e. refl }) (λ s. refl) (tree_accepted g claim.body l tree acc) in
    (leaf.rows, subst (λ z. HasRows z leaf.rows) (all_written g claim.body l tree acc) leaf.has, (token_rows_lem g leaf.assumes leaf.rows v h valid leaf.closed run leaf.agrees).0)

pub sound_lem : Soundness → TokenSoundness → SoundByRules
sound_lem sound with_tokens WithoutTokens g claims trees valid acc v h run = sound g claims trees valid acc v h run
sound_lem sound with_tokens WithTokens g claims trees valid acc v h run = with_tokens g claims trees valid acc v h run
