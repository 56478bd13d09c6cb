-- Parts that declare and name no more than others, and whose branches keep apart where those of the others do.
use Rattle.std.proofs.Common.{◌≡◌, ℕ, Bool, true, false, not, ◌&&◌, ◌||◌, List, [], ◌∷◌, ◌++◌, map, refl, ap, subst, sym, ◌∙◌}
use Rattle.std.specs.Prelude.{nat_eq}
use Rattle.std.specs.List.{list_all, list_any}
use Rattle.std.proofs.lemmas.List.{map-append}
use Rattle.std.proofs.lemmas.List.Folds.{list_all-append}
use Rattle.std.proofs.lemmas.Bool.{and_from}
use Rattle.bl_tree.proofs.Basics.{all_weaker, and_first, and_second}
use Rattle.bl_tree.specs.Apart.{Naming, Roots, all_apart, is_foreign, keep_apart, of_branches, together}
use Rattle.bl_tree.specs.Reduce.{all_of, joined}
use Rattle.bl_tree.proofs.ReduceLemmas.{all_of-append, joined-append}
use Rattle.bl_peel_laws_typing.proofs.Flags.{beside_each}

-- ---- variables among others

-- each test that all of the others pass is passed by all of these
abbrev pub AmongRoots : Roots → Roots → Type 0
AmongRoots roots others = (test : ℕ → Bool) → list_all test others ≡ true → list_all test roots ≡ true

both_among : (a b c : Roots) → AmongRoots a c → AmongRoots b c → AmongRoots (a ++ b) c
both_among a b c one other test all = list_all-append test a b ∙ and_from (list_all test a) (list_all test b) (one test all) (other test all)

front_among : (a b : Roots) → AmongRoots a (a ++ b)
front_among a b test all = and_first (list_all test a) (list_all test b) (sym (list_all-append test a b) ∙ all)

behind_among : (a b : Roots) → AmongRoots b (a ++ b)
behind_among a b test all = and_second (list_all test a) (list_all test b) (sym (list_all-append test a b) ∙ all)

-- ---- foreign variables

none_of : {A : Type 0} (test : A → Bool) (xs : List A) → not (list_any test xs) ≡ list_all (λ x. not (test x)) xs
none_of test [] = refl
none_of test (x ∷ xs) = neither (test x) (list_any test xs) ∙ ap (λ rest. not (test x) && rest) (none_of test xs)
  where
    neither : (a b : Bool) → not (a || b) ≡ (not a && not b)
    neither true b = refl
    neither false b = refl

foreign_still : (declared named others more : Roots) → AmongRoots declared others → AmongRoots named more → is_foreign others more ≡ true →
    is_foreign declared named ≡ true
foreign_still declared named others more fewer less foreign =
    none_of (λ k. list_any (nat_eq k) named) declared
    ∙ all_weaker (λ k. not (list_any (nat_eq k) more)) (λ k. not (list_any (nat_eq k) named)) still declared
    (fewer (λ k. not (list_any (nat_eq k) more)) (sym (none_of (λ k. list_any (nat_eq k) more) others) ∙ foreign))
  where
    still : (k : ℕ) → not (list_any (nat_eq k) more) ≡ true → not (list_any (nat_eq k) named) ≡ true
    still k none = none_of (nat_eq k) named ∙ less (λ m. not (nat_eq k m)) (sym (none_of (nat_eq k) more) ∙ none)

-- ---- namings

-- the first declares and names no more, and its branches keep apart where those of the second do
pub record NoMore (one other : Naming) : Type 0 where
  pub declared : AmongRoots one.declared other.declared
  pub named : AmongRoots one.named other.named
  pub apart : other.apart ≡ true → one.apart ≡ true

-- two parts as one
abbrev pub pair : Naming → Naming → Naming
pair one other = record { declared = one.declared ++ other.declared; named = one.named ++ other.named; apart = one.apart && other.apart }

pub no_more_itself : (a : Naming) → NoMore a a
no_more_itself a = record { declared = λ test all. all; named = λ test all. all; apart = λ holds. holds }

pub no_more_is : (a b : Naming) → a ≡ b → NoMore a b
no_more_is a b is = subst (NoMore a) is (no_more_itself a)

pub no_more_then : (a b c : Naming) → NoMore a b → NoMore b c → NoMore a c
no_more_then a b c one more = record {
  declared = λ test all. one.declared test (more.declared test all);
  named = λ test all. one.named test (more.named test all);
  apart = λ holds. one.apart (more.apart holds);
}

pub no_more_none : (a : Naming) → NoMore (together []) a
no_more_none a = record { declared = λ test all. refl; named = λ test all. refl; apart = λ holds. refl }

-- and_from are no more than a third
pub no_more_joined : (a b c : Naming) → NoMore a c → NoMore b c → NoMore (pair a b) c
no_more_joined a b c one other = record {
  declared = both_among a.declared b.declared c.declared one.declared other.declared;
  named = both_among a.named b.named c.named one.named other.named;
  apart = λ holds. and_from a.apart b.apart (one.apart holds) (other.apart holds);
}

pub no_more_front : (a b : Naming) → NoMore a (pair a b)
no_more_front a b = record {
  declared = front_among a.declared b.declared;
  named = front_among a.named b.named;
  apart = and_first a.apart b.apart;
}

pub no_more_behind : (a b : Naming) → NoMore b (pair a b)
no_more_behind a b = record {
  declared = behind_among a.declared b.declared;
  named = behind_among a.named b.named;
  apart = and_second a.apart b.apart;
}

pub no_more_pair : (a b c d : Naming) → NoMore a c → NoMore b d → NoMore (pair a b) (pair c d)
no_more_pair a b c d one other =
    no_more_joined a b (pair c d) (no_more_then a c (pair c d) one (no_more_front c d)) (no_more_then b d (pair c d) other (no_more_behind c d))

-- several parts behind others
pub together_joins : (xs ys : List Naming) → together (xs ++ ys) ≡ pair (together xs) (together ys)
together_joins xs ys =
    let declared_is = ap joined (map-append (λ (n : Naming). n.declared) xs ys)
    ∙ joined-append (map (λ (n : Naming). n.declared) xs) (map (λ (n : Naming). n.declared) ys) in
    let named_is = ap joined (map-append (λ (n : Naming). n.named) xs ys)
    ∙ joined-append (map (λ (n : Naming). n.named) xs) (map (λ (n : Naming). n.named) ys) in
    let apart_is = ap all_of (map-append (λ (n : Naming). n.apart) xs ys)
    ∙ all_of-append (map (λ (n : Naming). n.apart) xs) (map (λ (n : Naming). n.apart) ys) in
    λ i. record { declared = declared_is i; named = named_is i; apart = apart_is i }

-- ---- branches

keep_still : (a b c d : Naming) → NoMore a c → NoMore b d → keep_apart c d ≡ true → keep_apart a b ≡ true
keep_still a b c d one other =
    beside_each (is_foreign c.declared d.named) (is_foreign d.declared c.named) (is_foreign a.declared b.named) (is_foreign b.declared a.named)
    (foreign_still a.declared b.named c.declared d.named one.declared other.named)
    (foreign_still b.declared a.named d.declared c.named other.declared one.named)

-- branches one for one: all of them together, a branch beside each of them, and each two of them
pub record NoMoreEach (ones others : List Naming) : Type 0 where
  pub all : NoMore (together ones) (together others)
  pub keep : (a b : Naming) → NoMore a b → list_all (keep_apart b) others ≡ true → list_all (keep_apart a) ones ≡ true
  pub apart : all_apart others ≡ true → all_apart ones ≡ true

pub each_none : NoMoreEach [] []
each_none = record { all = no_more_itself (together []); keep = λ a b most holds. refl; apart = λ holds. refl }

pub each_more : (one other : Naming) (ones others : List Naming) → NoMore one other → NoMoreEach ones others → NoMoreEach (one ∷ ones) (other ∷ others)
each_more one other ones others first most = record {
  all = no_more_pair one (together ones) other (together others) first most.all;
  keep = λ a b less.
      beside_each (keep_apart b other) (list_all (keep_apart b) others) (keep_apart a one) (list_all (keep_apart a) ones)
      (keep_still a one b other less first) (most.keep a b less);
  apart =
      beside_each (list_all (keep_apart other) others) (all_apart others) (list_all (keep_apart one) ones) (all_apart ones)
      (most.keep one other first) most.apart;
}

pub branches_no_more : (ones others : List Naming) → NoMoreEach ones others → NoMore (of_branches ones) (of_branches others)
branches_no_more ones others most = record {
  declared = most.all.declared;
  named = most.all.named;
  apart = beside_each (together others).apart (all_apart others) (together ones).apart (all_apart ones) most.all.apart most.apart;
}
