-- What the search writes is taken back by the check.
use Rattle.std.proofs.Common.{◌≡◌, ℕ, List, get_or, inl, inr, codes, refl, subst}
use Rattle.std.specs.List.{All}
use Rattle.tpl_model.specs.declared.rule_set.RuleSet.{RuleSet}
use Rattle.tpl_model.specs.Certificate.{Tree}
use Rattle.tpl_laws.specs.ByRules.{AcceptsBy}
use Rattle.tpl_cert.proofs.ReadWithin.{read_within}
use Rattle.tpl_trees.specs.Heights.{IsWithinLimits}
use Rattle.tpl_cert.specs.Written.{tree_data}
use Rattle.tpl_draft.specs.Named.{Names}
use Rattle.tpl_reader.specs.declared.fault.ReadFault.{ReadFault}
use Rattle.tpl_reader.specs.declared.fault.ReadFault.TheVariants as faults
use Rattle.tpl_reader.specs.Document.{DocumentValue, Spells}
use Rattle.tpl_commands.specs.Rules.{rules_of, HasProof}
use Rattle.tpl_reader.specs.Laws.{SpellsOneDocument, SpelledHasNoFault, CertificateIsReadBack, IsReadBack}
use Rattle.tpl_commands.specs.declared.exit.Exit.{Exit}
use Rattle.tpl_commands.specs.declared.exit.Exit.TheVariants.{Success, Failure, Usage, Unreadable, Memory, Device, Fault}
use Rattle.tpl_commands.specs.Checking.{IsVerdict}
use Rattle.tpl_commands.specs.Unreadable.{IsUnreadable}
use Rattle.tpl_commands.specs.Proof.{IsRead}
use Rattle.tpl_commands.specs.Searching.{IsOnlyAccepted, CanBePut, written_trees}

verdict_only : (doc : DocumentValue) (exit : Exit) (text : List ℕ) → HasProof doc → IsVerdict doc exit text → (exit ≡ Success) × (text ≡ codes "accepted\n")
verdict_only doc Success text accepted is = (refl, is.1)
verdict_only doc Failure text accepted is = absurd (is.1.not_accepted accepted)
verdict_only doc Usage text accepted is = absurd is
verdict_only doc Unreadable text accepted is = absurd is
verdict_only doc Memory text accepted is = absurd is
verdict_only doc Device text accepted is = absurd is
verdict_only doc Fault text accepted is = absurd is

pub unreadable_never : (fault : ReadFault) (text : List ℕ) → fault ≡ faults.Memory → IsUnreadable fault text → ⊥
unreadable_never fault text e is = subst (λ (f : ReadFault). IsUnreadable f text) e is

-- a document whose certificate is accepted is answered `accepted`
only_accepted : SpellsOneDocument → SpelledHasNoFault → (bytes : List ℕ) (doc : DocumentValue) → Spells bytes doc → HasProof doc → IsOnlyAccepted bytes
only_accepted one faultless bytes doc spelled accepted exit text (inl found) =
    verdict_only doc exit text accepted (subst (λ (d : DocumentValue). IsVerdict d exit text) (one bytes doc found.0 spelled found.1) found.2)
only_accepted one faultless bytes doc spelled accepted exit text (inr wrong) =
    absurd (unreadable_never wrong.0 text (faultless bytes doc wrong.0 spelled wrong.1) wrong.3)

pub within : (rules : RuleSet) (n : Names) (trees : List Tree) → All (IsRead rules n) trees → All IsWithinLimits trees → All (IsReadBack rules n) trees
within rules n trees read limits = λ k t lt. read_within rules n (tree_data rules n (get_or trees k t)) (get_or trees k t) (read k t lt) (limits k t lt)

pub taken_back : SpellsOneDocument → SpelledHasNoFault → CertificateIsReadBack → (doc : DocumentValue) (trees : List Tree)
    → AcceptsBy (rules_of doc) doc.graph.graph doc.claims trees → All (IsReadBack (rules_of doc) doc.graph.names) trees → CanBePut doc trees (written_trees doc trees)
taken_back one faultless put doc trees accepted read input bytes spelled holds le =
    let again = put input bytes doc trees spelled read holds le in
    record {
      spelled = again;
      only = λ other is. one bytes (record doc { certificate = trees }) other again is;
      accepted = only_accepted one faultless bytes (record doc { certificate = trees }) again accepted;
    }
