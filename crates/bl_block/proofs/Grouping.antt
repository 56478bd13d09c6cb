-- The blocks of a list of nodes: the same nodes in the same order, the test holds within them, and not between two of them.
use Rattle.std.proofs.Common.{◌≡◌, ℕ, zero, suc, ◌+◌, ◌-◌, ◌<◌, Bool, true, false, List, [], ◌∷◌, ◌++◌, Some, length, refl, ap, sym, ◌∙◌, append_assoc}
use Rattle.std.proofs.Common.{length-append, arith}
use Rattle.std.specs.Prelude.{All, if◌then◌else◌, slice_get, ⊤}
use Rattle.std.proofs.lemmas.List.{append-nil}
use Rattle.std.proofs.lemmas.List.Elements.{All-cons, All-nil}
use Rattle.std.proofs.lemmas.Option.{none-some, same_Some}
use Rattle.bl_tree.specs.Reduce.{joined}
use Rattle.bl_block.specs.inner.Groups.{grouped, groups_from}

-- the test holds of each two neighbours
abbrev pub Chain : (ℕ → ℕ → Bool) → List ℕ → Type 0
Chain test [] = ⊤
Chain test (x ∷ []) = ⊤
Chain test (x ∷ y ∷ rest) = (test x y ≡ true) × Chain test (y ∷ rest)

-- the front, the first of what follows it and more
record Starts (front : List ℕ) (first : ℕ) (all : List ℕ) : Type 0 where
  pub more : List ℕ
  pub is : all ≡ front ++ first ∷ more

long : (front : List ℕ) (last : ℕ) → length (front ++ last ∷ []) ≡ length front + 1
long front last = length-append front (last ∷ [])

last_there : (front : List ℕ) (last : ℕ) → slice_get (front ++ last ∷ []) (length front) ≡ Some last
last_there [] last = refl
last_there (x ∷ front) last = last_there front last

last_at : (front : List ℕ) (last : ℕ) → slice_get (front ++ last ∷ []) (length (front ++ last ∷ []) - 1) ≡ Some last
last_at front last =
    let many = long front last in
    let same : length (front ++ last ∷ []) - 1 ≡ length front = omega (arith, many) in
    ap (slice_get (front ++ last ∷ [])) same ∙ last_there front last

first_at : (first : ℕ) (all : List ℕ) → Starts [] first all → slice_get all 0 ≡ Some first
first_at first all starts = ap (λ xs. slice_get xs 0) starts.is

pub chain_at : (test : ℕ → ℕ → Bool) (block : List ℕ) (k i j : ℕ) → Chain test block → slice_get block k ≡ Some i →
    slice_get block (suc k) ≡ Some j → test i j ≡ true
chain_at test [] k i j chain one two = absurd (none-some i one)
chain_at test (x ∷ []) k i j chain one two = absurd (none-some j two)
chain_at test (x ∷ y ∷ rest) zero i j chain one two =
    ap (λ n. test n j) (sym (same_Some x i one)) ∙ ap (test x) (sym (same_Some y j two)) ∙ chain.0
chain_at test (x ∷ y ∷ rest) (suc k) i j chain one two = chain_at test (y ∷ rest) k i j chain.1 one two

module _ (test : ℕ → ℕ → Bool) where
  chain_more : (front : List ℕ) (last node : ℕ) → Chain test (front ++ last ∷ []) → test last node ≡ true →
      Chain test ((front ++ last ∷ []) ++ node ∷ [])
  chain_more [] last node chain holds = (holds, tt)
  chain_more (x ∷ []) last node chain holds = (chain.0, (holds, tt))
  chain_more (x ∷ y ∷ front) last node chain holds = (chain.0, chain_more (y ∷ front) last node chain.1 holds)

  -- the blocks from here on, where the node follows the one before it or doesn't
  abbrev Next : List ℕ → ℕ → ℕ → List ℕ → Bool → List (List ℕ)
  Next front last node rest b =
      if b then groups_from test (front ++ last ∷ []) node rest else (front ++ last ∷ []) ∷ groups_from test [] node rest

  joined_from : (front : List ℕ) (last : ℕ) (rest : List ℕ) → joined (groups_from test front last rest) ≡ front ++ last ∷ rest
  joined_from front last [] = append-nil (front ++ last ∷ [])
  joined_from front last (node ∷ rest) =
      elim (test last node) as (λ b. joined (Next front last node rest b) ≡ front ++ last ∷ node ∷ rest) [
        | true ↦ joined_from (front ++ last ∷ []) node rest ∙ append_assoc front (last ∷ []) (node ∷ rest)
        | false ↦
            ap (λ nodes. (front ++ last ∷ []) ++ nodes) (joined_from [] node rest) ∙ append_assoc front (last ∷ []) (node ∷ rest)
      ]

  filled_from : (front : List ℕ) (last : ℕ) (rest : List ℕ) → All (λ block. 0 < length block) (groups_from test front last rest)
  filled_from front last [] =
      All-cons (λ block. 0 < length block) (front ++ last ∷ []) [] (let many = long front last in omega (arith, many)) (All-nil _)
  filled_from front last (node ∷ rest) =
      elim (test last node) as (λ b. All (λ block. 0 < length block) (Next front last node rest b)) [
        | true ↦ filled_from (front ++ last ∷ []) node rest
        | false ↦
            All-cons (λ block. 0 < length block) (front ++ last ∷ []) (groups_from test [] node rest)
            (let many = long front last in omega (arith, many)) (filled_from [] node rest)
      ]

  chains_from : (front : List ℕ) (last : ℕ) (rest : List ℕ) → Chain test (front ++ last ∷ []) →
      All (Chain test) (groups_from test front last rest)
  chains_from front last [] chain = All-cons (Chain test) (front ++ last ∷ []) [] chain (All-nil (Chain test))
  chains_from front last (node ∷ rest) chain =
      elim (test last node) as (λ b. test last node ≡ b → All (Chain test) (Next front last node rest b)) [
        | true ↦ λ holds. chains_from (front ++ last ∷ []) node rest (chain_more front last node chain holds)
        | false ↦ λ fails. All-cons (Chain test) (front ++ last ∷ []) (groups_from test [] node rest) chain (chains_from [] node rest tt)
      ] refl

  starts_from : (front : List ℕ) (last : ℕ) (rest two : List ℕ) → slice_get (groups_from test front last rest) 0 ≡ Some two →
      Starts front last two
  starts_from front last [] two is = record { more = []; is = sym (same_Some (front ++ last ∷ []) two is) }
  starts_from front last (node ∷ rest) two is =
      elim (test last node) as (λ b. slice_get (Next front last node rest b) 0 ≡ Some two → Starts front last two) [
        | true ↦ λ there.
            let later = starts_from (front ++ last ∷ []) node rest two there in
            record { more = node ∷ later.more; is = later.is ∙ append_assoc front (last ∷ []) (node ∷ later.more) }
        | false ↦ λ there. record { more = []; is = sym (same_Some (front ++ last ∷ []) two there) }
      ] is

  -- where a block is closed, by whether it is the first of the two
  broken : (front : List ℕ) (last node : ℕ) (rest : List ℕ) (k : ℕ) (one two : List ℕ) (i j : ℕ) → test last node ≡ false →
      slice_get ((front ++ last ∷ []) ∷ groups_from test [] node rest) k ≡ Some one → slice_get (groups_from test [] node rest) k ≡ Some two →
      slice_get one (length one - 1) ≡ Some i → slice_get two 0 ≡ Some j →
      ((below : ℕ) → slice_get (groups_from test [] node rest) below ≡ Some one →
      slice_get (groups_from test [] node rest) (suc below) ≡ Some two → test i j ≡ false) →
      test i j ≡ false
  broken front last node rest zero one two i j fails first second end start further =
      let ends : Some last ≡ Some i =
      sym (last_at front last) ∙ ap (λ xs. slice_get xs (length xs - 1)) (same_Some (front ++ last ∷ []) one first) ∙ end in
      let starts : Some node ≡ Some j = sym (first_at node two (starts_from [] node rest two second)) ∙ start in
      ap (λ n. test n j) (sym (same_Some last i ends)) ∙ ap (test last) (sym (same_Some node j starts)) ∙ fails
  broken front last node rest (suc k) one two i j fails first second end start further = further k first second

  -- the test doesn't hold between the last of a block and the first of the next
  apart_from : (front : List ℕ) (last : ℕ) (rest : List ℕ) (k : ℕ) (one two : List ℕ) (i j : ℕ) →
      slice_get (groups_from test front last rest) k ≡ Some one → slice_get (groups_from test front last rest) (suc k) ≡ Some two →
      slice_get one (length one - 1) ≡ Some i → slice_get two 0 ≡ Some j → test i j ≡ false
  apart_from front last [] k one two i j first second end start = absurd (none-some two second)
  apart_from front last (node ∷ rest) k one two i j first second end start =
      elim (test last node) as (λ b. test last node ≡ b → slice_get (Next front last node rest b) k ≡ Some one →
      slice_get (Next front last node rest b) (suc k) ≡ Some two → test i j ≡ false) [
        | true ↦ λ holds at next. apart_from (front ++ last ∷ []) node rest k one two i j at next end start
        | false ↦ λ fails at next.
            broken front last node rest k one two i j fails at next end start
            (λ below at next. apart_from [] node rest below one two i j at next end start)
      ] refl first second

  -- ---- of a list of nodes

  pub joined_grouped : (nodes : List ℕ) → joined (grouped test nodes) ≡ nodes
  joined_grouped [] = refl
  joined_grouped (node ∷ rest) = joined_from [] node rest

  pub filled_grouped : (nodes : List ℕ) → All (λ block. 0 < length block) (grouped test nodes)
  filled_grouped [] = All-nil _
  filled_grouped (node ∷ rest) = filled_from [] node rest

  pub chains_grouped : (nodes : List ℕ) → All (Chain test) (grouped test nodes)
  chains_grouped [] = All-nil (Chain test)
  chains_grouped (node ∷ rest) = chains_from [] node rest tt

  pub apart_grouped : (nodes : List ℕ) (k : ℕ) (one two : List ℕ) (i j : ℕ) → slice_get (grouped test nodes) k ≡ Some one →
      slice_get (grouped test nodes) (suc k) ≡ Some two → slice_get one (length one - 1) ≡ Some i → slice_get two 0 ≡ Some j →
      test i j ≡ false
  apart_grouped [] k one two i j first second end start = absurd (none-some one first)
  apart_grouped (node ∷ rest) k one two i j first second end start = apart_from [] node rest k one two i j first second end start
