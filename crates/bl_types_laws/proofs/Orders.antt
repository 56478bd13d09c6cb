-- What is no more: variables among others, and trees that are nested no deeper.
use Rattle.std.proofs.Common.{◌≡◌, ℕ, ◌+◌, ◌≤◌, Bool, true, false, not, ◌&&◌, ◌||◌, List, [], ◌∷◌, ◌++◌, refl, ap, sym, ◌∙◌, arith}
use Rattle.std.specs.Prelude.{max, nat_eq}
use Rattle.std.specs.List.{list_all, list_any}
use Rattle.std.proofs.lemmas.List.Folds.{list_all-append}
use Rattle.std.proofs.lemmas.Bool.{and_from}
use Rattle.bl_tree.proofs.Basics.{all_weaker, and_first, and_second, none_at_most}
use Rattle.bl_tree.specs.Apart.{Naming, Roots, all_apart, is_foreign, keep_apart, of_branches, together}
use Rattle.bl_tree.specs.Depths.{Depth, block, leaf, of_all}
use Rattle.bl_names_laws.proofs.StmtDepth.{one_more}

-- ---- variables among others

-- each test that all of the others pass is passed by all of these
abbrev pub Among : Roots → Roots → Type 0
Among roots others = (test : ℕ → Bool) → list_all test others ≡ true → list_all test roots ≡ true

pub among_self : (roots : Roots) → Among roots roots
among_self roots test all = all

pub among_none : (others : Roots) → Among [] others
among_none others test all = refl

pub among_further : (a b c : Roots) → Among a b → Among b c → Among a c
among_further a b c one more test all = one test (more test all)

among_front : (a b c : Roots) → Among a b → Among a (b ++ c)
among_front a b c one test all = one test (and_first (list_all test b) (list_all test c) (sym (list_all-append test b c) ∙ all))

pub among_behind : (a b c : Roots) → Among a c → Among a (b ++ c)
among_behind a b c one test all = one test (and_second (list_all test b) (list_all test c) (sym (list_all-append test b c) ∙ all))

pub among_both : (a b c d : Roots) → Among a c → Among b d → Among (a ++ b) (c ++ d)
among_both a b c d one other test all =
    list_all-append test a b ∙ and_from (list_all test a) (list_all test b) (among_front a c d one test all) (among_behind b c d other test all)

-- ---- foreign variables

none_of : {A : Type 0} (test : A → Bool) (xs : List A) → not (list_any test xs) ≡ list_all (λ x. not (test x)) xs
none_of test [] = refl
none_of test (x ∷ xs) = neither (test x) (list_any test xs) ∙ ap (λ rest. not (test x) && rest) (none_of test xs)
  where
    neither : (a b : Bool) → not (a || b) ≡ (not a && not b)
    neither true b = refl
    neither false b = refl

foreign_still : (declared named others more : Roots) → Among declared others → Among named more → is_foreign others more ≡ true →
    is_foreign declared named ≡ true
foreign_still declared named others more fewer less foreign =
    none_of (λ k. list_any (nat_eq k) named) declared
    ∙ all_weaker (λ k. not (list_any (nat_eq k) more)) (λ k. not (list_any (nat_eq k) named)) still declared
    (fewer (λ k. not (list_any (nat_eq k) more)) (sym (none_of (λ k. list_any (nat_eq k) more) others) ∙ foreign))
  where
    still : (k : ℕ) → not (list_any (nat_eq k) more) ≡ true → not (list_any (nat_eq k) named) ≡ true
    still k none = none_of (nat_eq k) named ∙ less (λ m. not (nat_eq k m)) (sym (none_of (nat_eq k) more) ∙ none)

-- ---- what is declared and named

-- no more is declared or named, and branches keep apart where those do
pub record NamingMost (one other : Naming) : Type 0 where
  pub declared : Among one.declared other.declared
  pub named : Among one.named other.named
  pub apart : other.apart ≡ true → one.apart ≡ true

keep_still : (a b c d : Naming) → NamingMost a c → NamingMost b d → keep_apart c d ≡ true → keep_apart a b ≡ true
keep_still a b c d one other keeps =
    and_from (is_foreign a.declared b.named) (is_foreign b.declared a.named)
    (foreign_still a.declared b.named c.declared d.named one.declared other.named
    (and_first (is_foreign c.declared d.named) (is_foreign d.declared c.named) keeps))
    (foreign_still b.declared a.named d.declared c.named other.declared one.named
    (and_second (is_foreign c.declared d.named) (is_foreign d.declared c.named) keeps))

-- so it is with all of these together, and with one of these beside each
pub record NamingsMost (ones others : List Naming) : Type 0 where
  pub all : NamingMost (together ones) (together others)
  pub keep : (a b : Naming) → NamingMost a b → list_all (keep_apart b) others ≡ true → list_all (keep_apart a) ones ≡ true
  pub apart : all_apart others ≡ true → all_apart ones ≡ true

pub namings_none : NamingsMost [] []
namings_none = record {
  all = record { declared = among_none []; named = among_none []; apart = λ holds. refl };
  keep = λ a b most holds. refl;
  apart = λ holds. refl;
}

pub namings_skip : (other : Naming) (ones others : List Naming) → NamingsMost ones others → NamingsMost ones (other ∷ others)
namings_skip other ones others most = record {
  all = record {
    declared = among_behind (together ones).declared other.declared (together others).declared most.all.declared;
    named = among_behind (together ones).named other.named (together others).named most.all.named;
    apart = λ holds. most.all.apart (and_second other.apart (together others).apart holds);
  };
  keep = λ a b less holds. most.keep a b less (and_second (keep_apart b other) (list_all (keep_apart b) others) holds);
  apart = λ holds. most.apart (and_second (list_all (keep_apart other) others) (all_apart others) holds);
}

pub namings_first : (one other : Naming) (ones others : List Naming) → NamingMost one other → NamingsMost ones others →
    NamingsMost (one ∷ ones) (other ∷ others)
namings_first one other ones others first most = record {
  all = record {
    declared = among_both one.declared (together ones).declared other.declared (together others).declared first.declared most.all.declared;
    named = among_both one.named (together ones).named other.named (together others).named first.named most.all.named;
    apart = λ holds. and_from one.apart (together ones).apart (first.apart (and_first other.apart (together others).apart holds))
        (most.all.apart (and_second other.apart (together others).apart holds));
  };
  keep = λ a b less holds. and_from (keep_apart a one) (list_all (keep_apart a) ones)
      (keep_still a one b other less first (and_first (keep_apart b other) (list_all (keep_apart b) others) holds))
      (most.keep a b less (and_second (keep_apart b other) (list_all (keep_apart b) others) holds));
  apart = λ holds. and_from (list_all (keep_apart one) ones) (all_apart ones)
      (most.keep one other first (and_first (list_all (keep_apart other) others) (all_apart others) holds))
      (most.apart (and_second (list_all (keep_apart other) others) (all_apart others) holds));
}

pub branches_most : (ones others : List Naming) → NamingsMost ones others → NamingMost (of_branches ones) (of_branches others)
branches_most ones others most = record {
  declared = most.all.declared;
  named = most.all.named;
  apart = λ holds. and_from (together ones).apart (all_apart ones) (most.all.apart (and_first (together others).apart (all_apart others) holds))
      (most.apart (and_second (together others).apart (all_apart others) holds));
}

-- ---- how deep trees are nested

-- neither the blocks nor the expressions are nested deeper
pub record DepthMost (one other : Depth) : Type 0 where
  pub blocks : one.blocks ≤ other.blocks
  pub exprs : one.exprs ≤ other.exprs

pub max_grows : (a b c d : ℕ) → a ≤ c → b ≤ d → max a b ≤ max c d
max_grows a b c d one other = grind arith

pub max_behind : (a b c : ℕ) → a ≤ c → a ≤ max b c
max_behind a b c most = grind arith

pub leaf_most : (a b : ℕ) → a ≤ b → DepthMost (leaf a) (leaf b)
leaf_most a b most = record { blocks = none_at_most 0; exprs = most }

pub block_most : (a b : ℕ) (ones others : List Depth) → a ≤ b → DepthMost (of_all ones) (of_all others) → DepthMost (block a ones) (block b others)
block_most a b ones others head most = record {
  blocks = one_more (of_all ones).blocks (of_all others).blocks most.blocks;
  exprs = max_grows a (of_all ones).exprs b (of_all others).exprs head most.exprs;
}

pub depths_none : DepthMost (of_all []) (of_all [])
depths_none = record { blocks = none_at_most 0; exprs = none_at_most 0 }

pub depths_skip : (other : Depth) (ones others : List Depth) → DepthMost (of_all ones) (of_all others) → DepthMost (of_all ones) (of_all (other ∷ others))
depths_skip other ones others most = record {
  blocks = max_behind (of_all ones).blocks other.blocks (of_all others).blocks most.blocks;
  exprs = max_behind (of_all ones).exprs other.exprs (of_all others).exprs most.exprs;
}

pub depths_first : (one other : Depth) (ones others : List Depth) → DepthMost one other → DepthMost (of_all ones) (of_all others) →
    DepthMost (of_all (one ∷ ones)) (of_all (other ∷ others))
depths_first one other ones others first most = record {
  blocks = max_grows one.blocks (of_all ones).blocks other.blocks (of_all others).blocks first.blocks most.blocks;
  exprs = max_grows one.exprs (of_all ones).exprs other.exprs (of_all others).exprs first.exprs most.exprs;
}
