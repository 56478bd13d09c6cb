-- Deeds that are done in either order are those of two branches of one `cobegin`.
use Rattle.std.proofs.Common.{◌⊎◌, inl, inr, ℕ, Bool, []}
use Rattle.bl_graph_nodes.specs.Plain.{Block, Bodies, Plain, Act, Again, Await, Body as BodyOf, Cobegin, Done, If, Last, Repeat, Run as RunOf, Then, Until}
use Rattle.bl_graph_nodes.specs.Plain.{When, While, plain_body}
use Rattle.bl_ctree.specs.Instances.{Setting, setting_of}
use Rattle.bl_ctree_laws.specs.Commutes.{Apart, ApartIn, in_branches, in_first, in_others, in_sequence, left_right, right_left, under_guard, under_run}
use Rattle.bl_ctree_laws.specs.Residual.{BlockSplitsAt, PlainResidual, PlainResidualEach, PlainResidualOf, ended, here, none_left, nothing, of_again, of_else}
use Rattle.bl_ctree_laws.specs.Residual.{of_guard, of_last, of_one, of_par, of_repeat, of_run, of_then, of_until, of_while, one_left, paused, tested, there}
use Rattle.bl_ctree_laws.specs.Residual.{to_begin}
use Rattle.bl_ctree_laws.specs.Pending.{Deed}
use Rattle.bl_ctree_laws.specs.Trees.{Tree, Trees, before}
use Rattle.bl_ctree_laws_confluence.proofs.OnDeeds.Accepted.{accepted_is_orderly}
use Rattle.bl_ctree_laws_confluence.specs.Apart.Forks.{EachFork, EachForkIn, EachForkInEach, KeepApart}
use Rattle.bl_ctree_laws_confluence.specs.Apart.Parted.{AcceptedKeepsApart, AllKeepApart, ApartIsTwoBranches, StandApart, TwoBranches}
use Rattle.bl_ctree_laws_confluence.specs.Apart.Outputs.{BranchesHaveOutputs}
use Rattle.bl_ctree_laws_confluence.specs.Apart.Returns.{NoneReturns}
use Rattle.bl_ctree_laws_confluence.specs.Apart.Running.{RunApart}
use Rattle.bl_ctree_laws_confluence.specs.Apart.Writing.{WriteApart}
use Rattle.bl_ctree_laws_confluence.proofs.OnApart.Forks.{branches_keep_apart_so}
use Rattle.bl_ctree_laws_confluence.proofs.OnApart.Outputs.{outputs_in_forks, typed_runs_have_outputs_so}
use Rattle.bl_ctree_laws_confluence.proofs.OnApart.Returns.{accepted_returns_last_so}
use Rattle.bl_ctree_laws_confluence.proofs.OnApart.Running.{accepted_runs_apart_so}
use Rattle.bl_ctree_laws_confluence.proofs.OnApart.Writing.{accepted_writes_apart_so}

rest_apart : (w : Setting) (i : ℕ) (weak : Bool) (body : Block) (rest : Bodies) → StandApart w i (BodyOf weak body rest) → StandApart w i rest
rest_apart w i weak body rest apart = record {
  names = apart.names.1;
  returns = λ some. apart.returns (inr some);
  runs = apart.runs.1;
  writes = apart.writes.1;
  outputs = λ place outputs callee some. apart.outputs place outputs callee (inr some);
}

-- ---- what holds of the branches of each `cobegin` one by one holds together

module _ (P Q R : Bodies → Type 0) (so : (bodies : Bodies) → P bodies → Q bodies → R bodies) where
  mutual
    both_of : (p : Plain) → EachFork P p → EachFork Q p → EachFork R p
    both_of (Act l s) one other = tt
    both_of (Await l at e) one other = tt
    both_of (RunOf l at target a inputs outputs) one other = tt
    both_of (If l at e body otherwise) one other = (both_in body one.0 other.0, both_in otherwise one.1 other.1)
    both_of (Cobegin l at bodies) one other = (so bodies one.0 other.0, both_each bodies one.1 other.1)
    both_of (When l at guard e body) one other = both_in body one other
    both_of (Repeat l at body) one other = both_in body one other
    both_of (Until l at body e) one other = both_in body one other
    both_of (While l at e body) one other = both_in body one other
    both_of (Again l at body e) one other = both_in body one other

    both_in : (body : Block) → EachForkIn P body → EachForkIn Q body → EachForkIn R body
    both_in Done one other = tt
    both_in (Then s rest) one other = (both_of s one.0 other.0, both_in rest one.1 other.1)

    both_each : (bodies : Bodies) → EachForkInEach P bodies → EachForkInEach Q bodies → EachForkInEach R bodies
    both_each Last one other = tt
    both_each (BodyOf weak body rest) one other = (both_in body one.0 other.0, both_each rest one.1 other.1)

-- ---- steps of different branches

fork_at : (P : Bodies → Type 0) {s : Plain} {rest body : Block} → BlockSplitsAt s rest body → EachForkIn P body → EachFork P s
fork_at P here forks = forks.0
fork_at P (there stands) forks = fork_at P stands forks.1

turned : (P : Bodies → Type 0) (body : Block) (next : Plain) → EachForkIn P body → EachFork P next → EachForkIn P (before body (Then next Done))
turned P Done next forks last = (last, tt)
turned P (Then s body) next forks last = (forks.0, turned P body next forks.1 last)

module _ {w : Setting} (all : AllKeepApart w) where
  mutual
    parted : {stood : Bool} {i : ℕ} {body : Block} {c : Tree} {a b : Deed} → PlainResidual w stood i body c → Apart w i c a b →
        EachForkIn (StandApart w i) body →
        TwoBranches w a b ⊎ TwoBranches w b a
    parted nothing two forks = elim two [ ]
    parted (of_last stands of) two forks = parted_of of two (fork_at (StandApart w _) stands forks)
    parted (of_one stands of busy) (in_sequence two) forks = parted_of of two (fork_at (StandApart w _) stands forks)

    parted_of : {stood : Bool} {i : ℕ} {s : Plain} {c : Tree} {a b : Deed} → PlainResidualOf w stood i s c → Apart w i c a b → EachFork (StandApart w i) s →
        TwoBranches w a b ⊎ TwoBranches w b a
    parted_of to_begin two forks = elim two [ ]
    parted_of ended two forks = elim two [ ]
    parted_of paused two forks = elim two [ ]
    parted_of tested two forks = elim two [ ]
    parted_of (of_then left) two forks = parted left two forks.0
    parted_of (of_else left) two forks = parted left two forks.1
    parted_of (of_repeat {body = body} left) two forks = parted left two (turned (StandApart w _) body _ forks forks)
    parted_of (of_until {body = body} left) two forks = parted left two (turned (StandApart w _) body _ forks forks)
    parted_of (of_while {body = body} left) two forks = parted left two (turned (StandApart w _) body _ forks forks)
    parted_of (of_again of) two forks = parted_of of two forks
    parted_of (of_par kept each) (in_branches two) forks = parted_in each two forks.0 forks.1
    parted_of (of_guard kept checked left) (under_guard two) forks = parted left two forks
    parted_of (of_run {callee = callee} {unit = unit} begins is kept checked left) (under_run two) forks = parted left two (all callee unit is)

    parted_in : {stood : Bool} {i : ℕ} {bodies : Bodies} {branches : Trees} {a b : Deed} → PlainResidualEach w stood i bodies branches →
        ApartIn w i branches a b → StandApart w i bodies → EachForkInEach (StandApart w i) bodies → TwoBranches w a b ⊎ TwoBranches w b a
    parted_in none_left two apart forks = elim two [ ]
    parted_in (one_left left each) (in_first two) apart forks = parted left two forks.0
    parted_in {i = i} (one_left {weak = weak} {body = body} {bodies = rest} left each) (in_others two) apart forks =
        parted_in each two (rest_apart w i weak body rest apart) forks.1
    parted_in {stood} {i} (one_left {weak = weak} {body = body} {bodies = rest} left each)
        (left_right {c = c} {others = others} {d = d} {e = e} {n = n} {m = m} {c' = c'} {others' = others'} one unmet other unmet') apart forks = inl (record {
          stood = stood;
          instance = i;
          weak = weak;
          body = body;
          rest = rest;
          apart = apart;
          tree = c;
          others = others;
          first = record { left = left; answer = d; label = n; after = c'; moves = one };
          second = record { left = each; answer = e; label = m; after = others'; moves = other };
          first_unmet = unmet;
          second_unmet = unmet';
        })
    parted_in {stood} {i} (one_left {weak = weak} {body = body} {bodies = rest} left each)
        (right_left {c = c} {others = others} {d = d} {e = e} {n = n} {m = m} {c' = c'} {others' = others'} other unmet' one unmet) apart forks = inr (record {
          stood = stood;
          instance = i;
          weak = weak;
          body = body;
          rest = rest;
          apart = apart;
          tree = c;
          others = others;
          first = record { left = left; answer = e; label = m; after = c'; moves = one };
          second = record { left = each; answer = d; label = n; after = others'; moves = other };
          first_unmet = unmet;
          second_unmet = unmet';
        })

pub apart_is_two_branches_so : ApartIsTwoBranches
apart_is_two_branches_so w stood i body c a b all forks left two = parted all left two forks

pub accepted_keeps_apart_so : AcceptedKeepsApart
accepted_keeps_apart_so structs units entry keeps passes i unit is =
    let w : Setting = setting_of structs units entry in
    let body : Block = plain_body unit.body in
    let orderly = (accepted_is_orderly structs units entry keeps passes).each i unit is in
    let one : EachForkIn (λ bodies. KeepApart bodies × NoneReturns bodies) body =
    both_in KeepApart NoneReturns (λ bodies. KeepApart bodies × NoneReturns bodies) (λ bodies one other. (one, other)) body
    (branches_keep_apart_so unit.body [] orderly.apart) (accepted_returns_last_so structs units entry i unit keeps passes is) in
    let two : EachForkIn (λ bodies. RunApart bodies × WriteApart bodies) body =
    both_in RunApart WriteApart (λ bodies. RunApart bodies × WriteApart bodies) (λ bodies one other. (one, other)) body
    (accepted_runs_apart_so structs units entry i unit keeps passes is) (accepted_writes_apart_so structs units entry i unit keeps passes is) in
    let three : EachForkIn (λ bodies. (RunApart bodies × WriteApart bodies) × BranchesHaveOutputs w i bodies) body =
    both_in (λ bodies. RunApart bodies × WriteApart bodies) (BranchesHaveOutputs w i)
    (λ bodies. (RunApart bodies × WriteApart bodies) × BranchesHaveOutputs w i bodies) (λ bodies one other. (one, other)) body two
    (outputs_in_forks w i body (typed_runs_have_outputs_so structs units entry i unit keeps is)) in
    both_in (λ bodies. KeepApart bodies × NoneReturns bodies) (λ bodies. (RunApart bodies × WriteApart bodies) × BranchesHaveOutputs w i bodies)
    (StandApart w i)
    (λ bodies one other. record { names = one.0; returns = one.1; runs = other.0.0; writes = other.0.1; outputs = other.1 }) body one three
