-- Tables that have some notes, with one more of them.
use Rattle.std.proofs.Common.{◌≡◌, ℕ, suc, ◌+◌, Bool, true, false, cond, List, [], ◌∷◌, ◌++◌, length, Option, Some, None, refl, sym, ap, subst, ◌∙◌, append_assoc}
use Rattle.std.proofs.Common.{append-nil, is_eq, nat_cmp, Ordering, Less, Equal, Greater, ◌<◌, get_or, take}
use Rattle.std.specs.BTreeMap.{is_at}
use Rattle.std.specs.Cmp.{unsigned_tied}
use Rattle.std.specs.Cmp.Lexicographic.{slice_cmp}
use Rattle.std.specs.Map.{lookup}
use Rattle.std.specs.Prelude.{unwrap_or}
use Rattle.std.proofs.lemmas.List.{take_more}
use Rattle.std.proofs.lemmas.Map.Lookups.{exact_bytes}
use Rattle.std.proofs.lemmas.Bool.{and_parts}
use Rattle.bl_tree.proofs.Basics.{same_number}
use Rattle.bl_tree.specs.Order.{static_cmp}
use Rattle.bl_tree.specs.declared.static_path.Static.{Static}
use Rattle.bl_tree.specs.declared.graph.Edge.{Edge}
use Rattle.bl_graph.specs.declared.accesses.Access.{Access}
use Rattle.bl_graph.specs.declared.accesses.Access.TheVariants.{Write}
use Rattle.bl_graph.specs.declared.flow.notes.Notes.{Notes}
use Rattle.bl_graph.specs.Accesses.{writers_at, writers_of}
use Rattle.bl_graph.specs.inner.Found.{notes_of}
use Rattle.bl_graph.specs.inner.Gains.{Gains}
use Rattle.bl_graph.specs.inner.Noted.{HasNotes, HasNotesAndFronts, Note, Noting, NotingAll, Stands, front, fronts_of, fronts_to, note, numbers_at, with_fronts}
use Rattle.bl_graph.proofs.AccessLemmas.{gains_none, gains_then, gains_write, write_stands}
use Rattle.bl_graph.proofs.MemberLemmas.{each-append}
use Rattle.bl_effects.proofs.EntryLemmas.{both_equal}

-- ---- equal keys are equal paths

is_equal : (r : Ordering) → is_eq r ≡ true → r ≡ Equal
is_equal Less is = absurd (cc)
is_equal Equal is = refl
is_equal Greater is = absurd (cc)

pub same_path : (p q : Static) → is_at (static_cmp p) q ≡ true → p ≡ q
same_path p q is =
    let both = and_parts (is_eq (nat_cmp p.root q.root)) (is_eq (slice_cmp nat_cmp p.fields q.fields))
    (sym (both_equal (nat_cmp p.root q.root) (slice_cmp nat_cmp p.fields q.fields)) ∙ is) in
    let roots = same_number p.root q.root (sym (unsigned_tied p.root q.root) ∙ both.0) in
    let fields = exact_bytes p.fields q.fields (is_equal (slice_cmp nat_cmp p.fields q.fields) both.1) in
    λ i. record { root = roots i; fields = fields i }

-- ---- accesses of a table

abbrev Table : Type 0
Table = List (Static × ℕ)

pub stands_writers : (writers : List (List ℕ)) (found : Option ℕ) (nodes : List ℕ) → Stands writers found nodes → writers_at writers found ≡ nodes
stands_writers writers None nodes is = is
stands_writers writers (Some k) nodes is = ap (λ found. unwrap_or found []) is

stands_kept : (a b : List Access) (edges : List Edge) → Gains a b edges → (found : Option ℕ) (nodes : List ℕ) → Stands (writers_of a) found nodes →
    Stands (writers_of b) found nodes
stands_kept a b edges gains None nodes is = is
stands_kept a b edges gains (Some k) nodes is = gains.keeps k nodes is

pub table_kept : (a b : List Access) (edges : List Edge) → Gains a b edges → (table : Table) (ns : List Note) → HasNotes (writers_of a) table ns →
    HasNotes (writers_of b) table ns
table_kept a b edges gains table ns has path =
    stands_kept a b edges gains (lookup (is_at (static_cmp path)) table) (numbers_at path ns) (has path)

pub tables_kept : (a b : List Access) (edges : List Edge) → Gains a b edges → (notes : Notes) (ns : List Note) →
    HasNotesAndFronts (writers_of a) notes ns → HasNotesAndFronts (writers_of b) notes ns
tables_kept a b edges gains notes ns has = record {
  within = table_kept a b edges gains notes.within (with_fronts ns) has.within;
  exactly = table_kept a b edges gains notes.exactly ns has.exactly;
}

-- ---- one more note

pub numbers-append : (path : Static) (xs ys : List Note) → numbers_at path (xs ++ ys) ≡ numbers_at path xs ++ numbers_at path ys
numbers-append path = each-append (λ n. cond (is_at (static_cmp n.path) path) (n.node ∷ []) [])

-- a table in which the access at a path was replaced by one that has one writer more
pub noting_one : (a b : List Access) (old new : Table) (path : Static) (node position : ℕ) → position ≡ length a →
    b ≡ a ++ Write node (lookup (is_at (static_cmp path)) old) ∷ [] →
    ((q : Static) → lookup (is_at (static_cmp q)) new ≡ cond (is_at (static_cmp path) q) (Some position) (lookup (is_at (static_cmp q)) old)) →
    Noting a b old new (note node path ∷ [])
noting_one a b old new path node position last is is_new = record {
  gains = gains;
  keeps = λ ns has q.
      subst (λ found. Stands (writers_of b) found (numbers_at q (ns ++ note node path ∷ []))) (sym (is_new q))
      (subst (Stands (writers_of b) (cond (is_at (static_cmp path) q) (Some position) (lookup (is_at (static_cmp q)) old)))
      (sym (numbers-append q ns (note node path ∷ []))) (step ns has q (is_at (static_cmp path) q) refl));
}
  where
    gains : Gains a b []
    gains = gains_write a b node (lookup (is_at (static_cmp path)) old) is

    step : (ns : List Note) → HasNotes (writers_of a) old ns → (q : Static) (t : Bool) → is_at (static_cmp path) q ≡ t →
        Stands (writers_of b) (cond t (Some position) (lookup (is_at (static_cmp q)) old)) (numbers_at q ns ++ (cond t (node ∷ []) [] ++ []))
    step ns has q true same =
        write_stands a b node (lookup (is_at (static_cmp path)) old) is position last
        ∙ ap (λ nodes. Some (nodes ++ node ∷ [])) (stands_writers (writers_of a) (lookup (is_at (static_cmp path)) old) (numbers_at path ns) (has path)
        ∙ ap (λ p. numbers_at p ns) (same_path path q same))
    step ns has q false other =
        subst (Stands (writers_of b) (lookup (is_at (static_cmp q)) old)) (sym (append-nil (numbers_at q ns)))
        (stands_kept a b [] gains (lookup (is_at (static_cmp q)) old) (numbers_at q ns) (has q))

pub noting_same : (a b : List Access) (old new : Table) (xs ys : List Note) → xs ≡ ys → Noting a b old new xs → Noting a b old new ys
noting_same a b old new xs ys is = subst (Noting a b old new) is

pub noting_then : (a b c : List Access) (old between new : Table) (xs ys : List Note) → Noting a b old between xs → Noting b c between new ys →
    Noting a c old new (xs ++ ys)
noting_then a b c old between new xs ys one two = record {
  gains = gains_then a b c [] [] one.gains two.gains;
  keeps = λ ns has. subst (HasNotes (writers_of c) new) (append_assoc ns xs ys) (two.keeps (ns ++ xs) (one.keeps ns has));
}

pub noting_none : (a : List Access) (table : Table) → Noting a a table table []
noting_none a table = record { gains = gains_none a; keeps = λ ns has. subst (HasNotes (writers_of a) table) (sym (append-nil ns)) has }

pub noting_at : (a b : List Access) (old new : Table) (node : ℕ) (made path : Static) → made ≡ path → Noting a b old new (note node made ∷ []) →
    Noting a b old new (note node path ∷ [])
noting_at a b old new node made path is = subst (λ p. Noting a b old new (note node p ∷ [])) is

-- ---- fronts

pub fronts_more : (a b c : List Access) (old between new : Table) (node : ℕ) (path : Static) (k next : ℕ) → next ≡ suc k →
    Noting a b old between (fronts_to node path k) → Noting b c between new (note node (front path k) ∷ []) →
    Noting a c old new (fronts_to node path next)
fronts_more a b c old between new node path k next is one two =
    subst (λ n. Noting a c old new (fronts_to node path n)) (sym is)
    (noting_then a b c old between new (fronts_to node path k) (note node (front path k) ∷ []) one two)

pub fronts_noted : (a b : List Access) (old new : Table) (node : ℕ) (path : Static) (k n : ℕ) → k ≡ n → Noting a b old new (fronts_to node path k) →
    Noting a b old new (fronts_to node path n)
fronts_noted a b old new node path k n is = subst (λ n. Noting a b old new (fronts_to node path n)) is

with_fronts-append : (xs ys : List Note) → with_fronts (xs ++ ys) ≡ with_fronts xs ++ with_fronts ys
with_fronts-append = each-append (λ n. fronts_of n ++ n ∷ [])

with_fronts_one : (ns : List Note) (n : Note) → (with_fronts ns ++ fronts_of n) ++ n ∷ [] ≡ with_fronts (ns ++ n ∷ [])
with_fronts_one ns n =
    append_assoc (with_fronts ns) (fronts_of n) (n ∷ []) ∙ ap (λ rest. with_fronts ns ++ rest) (sym (append-nil (fronts_of n ++ n ∷ [])))
    ∙ sym (with_fronts-append ns (n ∷ []))

-- a path with all its fronts in the one table, and itself in the other
pub noting_both : (a b c d : List Access) (old new : Notes) (fronts : Table) (node : ℕ) (path : Static) →
    Noting a b old.within fronts (fronts_to node path (length path.fields)) → Noting b c fronts new.within (note node path ∷ []) →
    Noting c d old.exactly new.exactly (note node path ∷ []) → NotingAll a d old new (note node path ∷ [])
noting_both a b c d old new fronts node path one two three = record {
  gains = gains_then a c d [] [] (gains_then a b c [] [] one.gains two.gains) three.gains;
  keeps = λ ns has. record {
    within = table_kept c d [] three.gains new.within (with_fronts (ns ++ note node path ∷ []))
        (subst (HasNotes (writers_of c) new.within) (with_fronts_one ns (note node path))
        (two.keeps (with_fronts ns ++ fronts_to node path (length path.fields)) (one.keeps (with_fronts ns) has.within)));
    exactly = three.keeps ns (table_kept a c [] (gains_then a b c [] [] one.gains two.gains) old.exactly ns has.exactly);
  };
}

pub all_noted_then : (a b c : List Access) (old between new : Notes) (xs ys : List Note) → NotingAll a b old between xs → NotingAll b c between new ys →
    NotingAll a c old new (xs ++ ys)
all_noted_then a b c old between new xs ys one two = record {
  gains = gains_then a b c [] [] one.gains two.gains;
  keeps = λ ns has. subst (HasNotesAndFronts (writers_of c) new) (append_assoc ns xs ys) (two.keeps (ns ++ xs) (one.keeps ns has));
}

pub all_noted_none : (a : List Access) (notes : Notes) → NotingAll a a notes notes []
all_noted_none a notes = record {
  gains = gains_none a;
  keeps = λ ns has. subst (HasNotesAndFronts (writers_of a) notes) (sym (append-nil ns)) has;
}

pub notes-append : (node : ℕ) (xs ys : List Static) → notes_of node (xs ++ ys) ≡ notes_of node xs ++ notes_of node ys
notes-append node = each-append (λ path. note node path ∷ [])

pub paths_step : (a b c : List Access) (old between new : Notes) (node : ℕ) (paths : List Static) (i : ℕ) (path : Static) → i < length paths →
    path ≡ get_or paths i path → NotingAll a b old between (notes_of node (take i paths)) → NotingAll b c between new (note node path ∷ []) →
    NotingAll a c old new (notes_of node (take (i + 1) paths))
paths_step a b c old between new node paths i path lt is one two =
    subst (NotingAll a c old new)
    (sym (notes-append node (take i paths) (path ∷ [])) ∙ ap (λ p. notes_of node (take i paths ++ p ∷ [])) is
    ∙ ap (notes_of node) (sym (take_more paths i path lt)))
    (all_noted_then a b c old between new (notes_of node (take i paths)) (note node path ∷ []) one two)

pub paths_end : (a b : List Access) (old new : Notes) (node : ℕ) (paths all : List Static) → paths ≡ all →
    NotingAll a b old new (notes_of node paths) → NotingAll a b old new (notes_of node all)
paths_end a b old new node paths all is = subst (λ ps. NotingAll a b old new (notes_of node ps)) is

pub noted_where : (a b : List Access) (old new : Notes) (test : Bool) (more : List Note) → test ≡ true → NotingAll a b old new more →
    NotingAll a b old new (cond test more [])
noted_where a b old new test more is = subst (λ t. NotingAll a b old new (cond t more [])) (sym is)

pub noted_elsewhere : (a : List Access) (notes : Notes) (test : Bool) (more : List Note) → test ≡ false → NotingAll a a notes notes (cond test more [])
noted_elsewhere a notes test more is = subst (λ t. NotingAll a a notes notes (cond t more [])) (sym is) (all_noted_none a notes)
