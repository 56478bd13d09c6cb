-- What is asked of a tree is told by its line.
use Rattle.std.proofs.Common.{◌≡◌, ℕ, Bool, true, false, ◌&&◌, ◌||◌, refl, sym, ap, ◌∙◌, subst}
use Rattle.std.proofs.lemmas.Bool.{and_from}
use Rattle.bl_tree.proofs.Basics.{and_first, and_regroup, and_second, and_true}
use Rattle.bl_tree.specs.declared.static_path.Static.{Static}
use Rattle.bl_graph_nodes.specs.Nodes.{Node, are_instant}
use Rattle.bl_graph_nodes.specs.Plain.{Block, Plain, Done, Then}
use Rattle.bl_ctree_laws.specs.Pending.{may_end, may_write_path, soon_in}
use Rattle.bl_ctree_laws.specs.Trees.{Tree, Nil, Wait, Test, Idle, Do, Seq, Par, Guard, Run, before, do_block, followed, is_nil, is_settled, seq, woken}
use Rattle.bl_ctree_laws.proofs.Less.{before_ends}
use Rattle.bl_ctree_laws_peeled.specs.Lines.{Line, Lined, At, Over, both_begin, both_over, is_chain, is_under_way, line}
use Rattle.bl_ctree_laws_peeled.specs.Unrolls.{Unrolls, first_alike, first_repeat, first_until, no_more}
use Rattle.bl_ctree_laws_peeled.proofs.Blocks.{or_spread, soon_before, unrolls_before}
use Rattle.bl_ctree_laws.proofs.Less.{or_nothing}

-- ---- lines of what is put together

pub line_begins : (body k : Block) → line (do_block body) k ≡ line Nil (before body k)
line_begins Done k = refl
line_begins (Then s Done) k = refl
line_begins (Then s (Then t rest)) k = refl

line_followed : (c : Tree) (rest k : Block) → line (followed c rest) k ≡ line c (before rest k)
line_followed c Done k = refl
line_followed c (Then s rest) k = refl

pub line_seq : (c : Tree) (rest k : Block) → line (seq c rest) k ≡ line c (before rest k)
line_seq Nil rest k = line_begins rest k
line_seq (Wait p) rest k = line_followed (Wait p) rest k
line_seq (Test p) rest k = line_followed (Test p) rest k
line_seq (Idle p) rest k = line_followed (Idle p) rest k
line_seq (Do p) rest k = line_followed (Do p) rest k
line_seq (Seq c p) rest k = line_followed (Seq c p) rest k
line_seq (Par p stood branches) rest k = line_followed (Par p stood branches) rest k
line_seq (Guard p phase stood c) rest k = line_followed (Guard p phase stood c) rest k
line_seq (Run p callee phase stood c) rest k = line_followed (Run p callee phase stood c) rest k

module _ {H : ℕ → Node → Plain → Type 0} where
  pub relined : {i : ℕ} {L M L' M' : Line} → L ≡ M → L' ≡ M' → Lined H i M M' → Lined H i L L'
  relined {i} {L} {M} {L'} {M'} e f lined = subst (λ one. Lined H i one L') (sym e) (subst (Lined H i M) (sym f) lined)

  pub lined_block : {i : ℕ} {k k' : Block} → Unrolls (H i) k k' → Lined H i (line Nil k) (line Nil k')
  lined_block no_more = both_over
  lined_block (first_alike alike rest) = both_begin (first_alike alike rest)
  lined_block (first_repeat falls turned) = both_begin (first_repeat falls turned)
  lined_block (first_until falls turned) = both_begin (first_until falls turned)

  pub lined_begins : {i : ℕ} {body body' k k' : Block} → Unrolls (H i) body body' → Unrolls (H i) k k' →
      Lined H i (line (do_block body) k) (line (do_block body') k')
  lined_begins {body = body} {body'} {k} {k'} unrolls rest =
      relined (line_begins body k) (line_begins body' k') (lined_block (unrolls_before unrolls rest))

-- ---- answers of lines

abbrev pub is_over : Line → Bool
is_over Over = true
is_over (At c k) = false

abbrev pub line_settled : Line → Bool
line_settled Over = true
line_settled (At c k) = is_settled c

abbrev pub line_ends : Line → Bool
line_ends Over = true
line_ends (At c k) = may_end c && are_instant k

abbrev pub line_writes : (Static → Bool) → Line → Bool
line_writes test Over = false
line_writes test (At c k) = may_write_path test c || (may_end c && soon_in test k)

ends_at : (c : Tree) (k : Block) → line_ends (line c k) ≡ (may_end c && are_instant k)
ends_at Nil Done = refl
ends_at Nil (Then s k) = refl
ends_at (Wait p) k = refl
ends_at (Test p) k = refl
ends_at (Idle p) k = refl
ends_at (Do p) k = refl
ends_at (Seq c rest) k =
    ends_at c (before rest k) ∙ ap (λ b. may_end c && b) (before_ends rest k) ∙ and_regroup (may_end c) (are_instant rest) (are_instant k)
ends_at (Par p stood branches) k = refl
ends_at (Guard p phase stood c) k = refl
ends_at (Run p callee phase stood c) k = refl

writes_at : (test : Static → Bool) (c : Tree) (k : Block) → line_writes test (line c k) ≡ (may_write_path test c || (may_end c && soon_in test k))
writes_at test Nil Done = refl
writes_at test Nil (Then s k) = refl
writes_at test (Wait p) k = refl
writes_at test (Test p) k = refl
writes_at test (Idle p) k = refl
writes_at test (Do p) k = refl
writes_at test (Seq c rest) k =
    writes_at test c (before rest k)
    ∙ ap (λ b. may_write_path test c || (may_end c && b)) (soon_before test rest k)
    ∙ or_spread (may_write_path test c) (may_end c) (soon_in test rest) (are_instant rest) (soon_in test k)
writes_at test (Par p stood branches) k = refl
writes_at test (Guard p phase stood c) k = refl
writes_at test (Run p callee phase stood c) k = refl

settled_at : (c : Tree) (k : Block) → is_under_way c ≡ true → is_chain c ≡ true → line_settled (line c k) ≡ is_settled c
settled_at Nil k going chain = absurd cc
settled_at (Wait p) k going chain = refl
settled_at (Test p) k going chain = refl
settled_at (Idle p) k going chain = absurd cc
settled_at (Do p) k going chain = refl
settled_at (Seq c rest) k going chain =
    settled_at c (before rest k) (and_first (is_under_way c) (is_chain c) chain) (and_second (is_under_way c) (is_chain c) chain)
settled_at (Par p stood branches) k going chain = refl
settled_at (Guard p phase stood c) k going chain = refl
settled_at (Run p callee phase stood c) k going chain = refl

goes_on_at : (c : Tree) (k : Block) → is_under_way c ≡ true → is_chain c ≡ true → is_over (line c k) ≡ false
goes_on_at Nil k going chain = absurd cc
goes_on_at (Wait p) k going chain = refl
goes_on_at (Test p) k going chain = refl
goes_on_at (Idle p) k going chain = absurd cc
goes_on_at (Do p) k going chain = refl
goes_on_at (Seq c rest) k going chain =
    goes_on_at c (before rest k) (and_first (is_under_way c) (is_chain c) chain) (and_second (is_under_way c) (is_chain c) chain)
goes_on_at (Par p stood branches) k going chain = refl
goes_on_at (Guard p phase stood c) k going chain = refl
goes_on_at (Run p callee phase stood c) k going chain = refl

-- ---- answers of whole trees

pub ended_of : (c : Tree) → is_chain c ≡ true → is_nil c ≡ is_over (line c Done)
ended_of Nil chain = refl
ended_of (Wait p) chain = refl
ended_of (Test p) chain = refl
ended_of (Idle p) chain = refl
ended_of (Do p) chain = refl
ended_of (Seq c rest) chain = sym (goes_on_at (Seq c rest) Done refl chain)
ended_of (Par p stood branches) chain = refl
ended_of (Guard p phase stood c) chain = refl
ended_of (Run p callee phase stood c) chain = refl

pub settled_of : (c : Tree) → is_chain c ≡ true → is_settled c ≡ line_settled (line c Done)
settled_of Nil chain = refl
settled_of (Wait p) chain = refl
settled_of (Test p) chain = refl
settled_of (Idle p) chain = refl
settled_of (Do p) chain = refl
settled_of (Seq c rest) chain = sym (settled_at (Seq c rest) Done refl chain)
settled_of (Par p stood branches) chain = refl
settled_of (Guard p phase stood c) chain = refl
settled_of (Run p callee phase stood c) chain = refl

pub ends_of : (c : Tree) → may_end c ≡ line_ends (line c Done)
ends_of c = sym (ends_at c Done ∙ and_true (may_end c))

pub writes_of : (test : Static → Bool) (c : Tree) → may_write_path test c ≡ line_writes test (line c Done)
writes_of test c = sym (writes_at test c Done ∙ or_nothing (may_write_path test c) (may_end c))

-- ---- woken lines

abbrev pub woken_line : Line → Line
woken_line Over = Over
woken_line (At c k) = line (woken c) k

pub line_woken : (c : Tree) (k : Block) → line (woken c) k ≡ woken_line (line c k)
line_woken Nil Done = refl
line_woken Nil (Then s k) = refl
line_woken (Wait p) k = refl
line_woken (Test p) k = refl
line_woken (Idle p) k = refl
line_woken (Do p) k = refl
line_woken (Seq c rest) k = line_woken c (before rest k)
line_woken (Par p stood branches) k = refl
line_woken (Guard p phase stood c) k = refl
line_woken (Run p callee phase stood c) k = refl

-- ---- chains

-- whether the tree is a whole one that has not begun
abbrev pub is_idle : Tree → Bool
is_idle (Idle body) = true
is_idle _ = false

-- a chain that has begun
pub record Begun (c : Tree) : Type 0 where
  pub chain : is_chain c ≡ true
  pub awake : is_idle c ≡ false

begun_followed : (c : Tree) (rest : Block) → is_under_way c ≡ true → is_chain c ≡ true → is_idle c ≡ false → Begun (followed c rest)
begun_followed c Done going chain awake = record { chain = chain; awake = awake }
begun_followed c (Then s rest) going chain awake = record { chain = and_from (is_under_way c) (is_chain c) going chain; awake = refl }

pub begun_block : (body : Block) → Begun (do_block body)
begun_block Done = record { chain = refl; awake = refl }
begun_block (Then s rest) = begun_followed (Do s) rest refl refl refl

pub begun_seq : (c : Tree) (rest : Block) → Begun c → Begun (seq c rest)
begun_seq Nil rest begun = begun_block rest
begun_seq (Wait p) rest begun = begun_followed (Wait p) rest refl refl refl
begun_seq (Test p) rest begun = begun_followed (Test p) rest refl refl refl
begun_seq (Idle p) rest begun = not_idle begun.awake
  where
    not_idle : {A : Type 0} → true ≡ false → A
    not_idle e = absurd cc
begun_seq (Do p) rest begun = begun_followed (Do p) rest refl refl refl
begun_seq (Seq c p) rest begun = begun_followed (Seq c p) rest refl begun.chain refl
begun_seq (Par p stood branches) rest begun = begun_followed (Par p stood branches) rest refl refl refl
begun_seq (Guard p phase stood c) rest begun = begun_followed (Guard p phase stood c) rest refl refl refl
begun_seq (Run p callee phase stood c) rest begun = begun_followed (Run p callee phase stood c) rest refl refl refl
