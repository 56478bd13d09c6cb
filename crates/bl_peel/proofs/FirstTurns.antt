-- A loop behind its first turn has the effects of the loop.
use Rattle.std.proofs.Common.{◌≡◌, ℕ, max, Bool, true, false, ◌&&◌, ◌||◌, List, [], ◌∷◌, ◌++◌, map, refl, ap, sym, subst, ◌∙◌, arith}
use Rattle.std.specs.Prelude.{if◌then◌else◌}
use Rattle.bl_tree.proofs.Basics.{and_false}
use Rattle.bl_tree.specs.declared.place.Place.{Place}
use Rattle.bl_tree.specs.declared.static_path.Static.{Static}
use Rattle.bl_tree.specs.declared.tree.Expr.{Expr}
use Rattle.bl_tree.specs.declared.tree.Stmt.{Stmt}
use Rattle.bl_tree.specs.declared.tree.StmtKind.TheOpen.{StmtKind-F}
use Rattle.bl_tree.specs.Effects.{reads, writes}
use Rattle.bl_tree.specs.Instant.{instant, is_instant_block}
use Rattle.bl_tree.specs.Reduce.{joined}
use Rattle.bl_tree.specs.Static.{mentions, set_of}
use Rattle.bl_effects.specs.Surface.{block_surface, stmt_width, surface_of, width}
use Rattle.bl_peel.specs.Laws.{HasEffectsOf}
use Rattle.bl_peel.specs.Peeled.{made_arm, made_if, made_stmt, place_of_expr}
use Rattle.bl_peel.proofs.Alike.{Alike, instant_append, paths_append, width_append, writes_first}
use Rattle.bl_peel.proofs.Equations.{instant_arm, instant_at, reads_arm, reads_at, surface_arm, surface_at, width_arm, width_at, writes_arm, writes_at}
use Rattle.bl_peel.proofs.Sets.{Sub, of_set, one_set, set_turn, sub_both, sub_if, sub_itself, sub_left, sub_none, sub_right, surface_turn, to_set}

-- what a turn before a statement has to do with that statement, so that both have its effects
pub record Turns (body : List Stmt) (next whole : Stmt) : Type 0 where
  pub ends : (is_instant_block body && instant next) ≡ instant whole
  pub rests : max (width body) (stmt_width next) ≡ stmt_width whole
  pub reads_in : Sub (joined (map reads body)) (reads whole)
  pub reads_next : Sub (reads next) (reads whole)
  pub reads_back : Sub (reads whole) (reads next)
  pub writes_in : Sub (joined (map writes body)) (writes whole)
  pub writes_next : Sub (writes next) (writes whole)
  pub writes_back : Sub (writes whole) (writes next)
  pub first_in : Sub (block_surface (map surface_of body)) (surface_of whole).writes
  pub first_back : Sub (surface_of whole).writes (block_surface (map surface_of body))
  pub first_next : Sub (surface_of next).writes (surface_of whole).writes

and_yes : (a b : Bool) → (a && (b && true)) ≡ ((a && b) && true)
and_yes true b = refl
and_yes false b = refl

max_none : (a b : ℕ) → max a (max b 0) ≡ max (max a b) 0
max_none a b = omega arith

pub turn_effects : (body : List Stmt) (next whole : Stmt) → Turns body next whole → HasEffectsOf (whole ∷ []) (body ++ next ∷ [])
turn_effects body next whole turns = record {
  instant = instant_append body (next ∷ []) ∙ and_yes (is_instant_block body) (instant next) ∙ ap (λ b. b && true) turns.ends;
  width = width_append body (next ∷ []) ∙ max_none (width body) (stmt_width next) ∙ ap (λ n. max n 0) turns.rests;
  reads = ap set_of (paths_append reads body (next ∷ []))
      ∙ set_turn (joined (map reads body)) (reads next) (reads whole) turns.reads_in turns.reads_next turns.reads_back;
  writes = ap set_of (paths_append writes body (next ∷ []))
      ∙ set_turn (joined (map writes body)) (writes next) (writes whole) turns.writes_in turns.writes_next turns.writes_back;
  surface = ap set_of (writes_first body (next ∷ []))
      ∙ surface_turn (is_instant_block body) (surface_of next).instant (surface_of whole).instant (block_surface (map surface_of body))
      (surface_of next).writes (surface_of whole).writes turns.first_in turns.first_back turns.first_next;
}

-- members by an equation
sub_is : (xs ys zs : List Static) → xs ≡ ys → Sub ys zs → Sub xs zs
sub_is xs ys zs is sub = subst (λ list. Sub list zs) (sym is) sub

is_sub : (xs ys : List Static) → xs ≡ ys → Sub ys xs
is_sub xs ys is = subst (λ list. Sub list xs) is (sub_itself xs)

-- ---- a loop without a test

max_itself : (n : ℕ) → max n n ≡ n
max_itself n = omega arith

pub repeat_turn : (place : Place) (body : List Stmt) →
    HasEffectsOf (made_stmt place (StmtKind-F.Repeat body) ∷ []) (body ++ made_stmt place (StmtKind-F.Repeat body) ∷ [])
repeat_turn place body =
    let loop = made_stmt place (StmtKind-F.Repeat body) in
    let ends : instant (made_stmt place (StmtKind-F.Repeat body)) ≡ false = instant_at place (StmtKind-F.Repeat body) in
    let wide : stmt_width (made_stmt place (StmtKind-F.Repeat body)) ≡ width body = width_at place (StmtKind-F.Repeat body) in
    let first : (surface_of (made_stmt place (StmtKind-F.Repeat body))).writes ≡ block_surface (map surface_of body) =
    ap (λ surface. surface.writes) (surface_at place (StmtKind-F.Repeat body)) in
    turn_effects body loop loop (record {
      ends = ap (λ b. is_instant_block body && b) ends ∙ and_false (is_instant_block body) ∙ sym ends;
      rests = ap (λ n. max (width body) n) wide ∙ max_itself (width body) ∙ sym wide;
      reads_in = to_set (reads loop) (joined (map reads body)) (reads_at place (StmtKind-F.Repeat body));
      reads_next = sub_itself (reads loop);
      reads_back = sub_itself (reads loop);
      writes_in = to_set (writes loop) (joined (map writes body)) (writes_at place (StmtKind-F.Repeat body));
      writes_next = sub_itself (writes loop);
      writes_back = sub_itself (writes loop);
      first_in = is_sub (surface_of loop).writes (block_surface (map surface_of body)) first;
      first_back = sub_is (surface_of loop).writes (block_surface (map surface_of body)) (block_surface (map surface_of body)) first (sub_itself _);
      first_next = sub_itself (surface_of loop).writes;
    })

-- ---- an `if` that is made for a loop

test_instant : (e : Expr) (a c : List Stmt) → instant (made_if e a c) ≡ ((is_instant_block a || false) || is_instant_block c)
test_instant e a c =
    instant_at (place_of_expr e) (StmtKind-F.If (made_arm e a ∷ []) c) ∙ ap (λ b. (b || false) || is_instant_block c) (instant_arm e a)

test_width : (e : Expr) (a c : List Stmt) → stmt_width (made_if e a c) ≡ max (max (width a) 0) (width c)
test_width e a c = width_at (place_of_expr e) (StmtKind-F.If (made_arm e a ∷ []) c) ∙ ap (λ n. max (max n 0) (width c)) (width_arm e a)

test_reads : (e : Expr) (a c : List Stmt) → reads (made_if e a c) ≡ set_of (((mentions e ++ joined (map reads a)) ++ []) ++ joined (map reads c))
test_reads e a c =
    reads_at (place_of_expr e) (StmtKind-F.If (made_arm e a ∷ []) c) ∙ ap (λ paths. set_of ((paths ++ []) ++ joined (map reads c))) (reads_arm e a)

test_writes : (e : Expr) (a c : List Stmt) → writes (made_if e a c) ≡ set_of ((joined (map writes a) ++ []) ++ joined (map writes c))
test_writes e a c =
    writes_at (place_of_expr e) (StmtKind-F.If (made_arm e a ∷ []) c) ∙ ap (λ paths. set_of ((paths ++ []) ++ joined (map writes c))) (writes_arm e a)

test_first : (e : Expr) (a c : List Stmt) →
    (surface_of (made_if e a c)).writes ≡ (block_surface (map surface_of a) ++ []) ++ block_surface (map surface_of c)
test_first e a c =
    ap (λ surface. surface.writes) (surface_at (place_of_expr e) (StmtKind-F.If (made_arm e a ∷ []) c))
    ∙ ap (λ paths. (paths ++ []) ++ block_surface (map surface_of c)) (surface_arm e a)

-- a list with nothing behind it
sub_padded : (xs ys : List Static) → Sub xs ys → Sub ((xs ++ []) ++ []) ys
sub_padded xs ys sub = sub_both (xs ++ []) [] ys (sub_both xs [] ys sub (sub_none ys)) (sub_none ys)

sub_one : (xs ys : List Static) → Sub xs ys → Sub (xs ++ []) ys
sub_one xs ys sub = sub_both xs [] ys sub (sub_none ys)

padded_sub : (xs : List Static) → Sub xs ((xs ++ []) ++ [])
padded_sub xs x h = sub_left (xs ++ []) [] x (sub_left xs [] x h)

-- ---- a loop with its test behind

test_rests : (n loop : ℕ) → loop ≡ n → max n (max (max 0 0) (max loop 0)) ≡ loop
test_rests n loop is = omega arith

module _ (place : Place) (e : Expr) (body : List Stmt) where
  abbrev until_loop : Stmt
  until_loop = made_stmt place (StmtKind-F.Until body e)

  abbrev until_test : Stmt
  until_test = made_if e [] (until_loop ∷ [])

  until_reads : reads until_loop ≡ set_of (joined (map reads body) ++ mentions e)
  until_reads = reads_at place (StmtKind-F.Until body e)

  until_writes : writes until_loop ≡ set_of (joined (map writes body))
  until_writes = writes_at place (StmtKind-F.Until body e)

  until_first : (surface_of until_loop).writes ≡ block_surface (map surface_of body)
  until_first = ap (λ surface. surface.writes) (surface_at place (StmtKind-F.Until body e))

  mentions_in : Sub (mentions e) (reads until_loop)
  mentions_in x h =
      to_set (reads until_loop) (joined (map reads body) ++ mentions e) until_reads x (sub_right (joined (map reads body)) (mentions e) x h)

  pub until_turn : HasEffectsOf (until_loop ∷ []) (body ++ until_test ∷ [])
  until_turn = turn_effects body until_test until_loop (record {
    ends = ap (λ b. is_instant_block body && b) (test_instant e [] (until_loop ∷ [])) ∙ and_any (is_instant_block body)
        ∙ sym (instant_at place (StmtKind-F.Until body e));
    rests = ap (λ n. max (width body) n) (test_width e [] (until_loop ∷ []))
        ∙ test_rests (width body) (stmt_width until_loop) (width_at place (StmtKind-F.Until body e));
    reads_in = λ x h. to_set (reads until_loop) (joined (map reads body) ++ mentions e) until_reads x
        (sub_left (joined (map reads body)) (mentions e) x h);
    reads_next = of_set (reads until_test) (((mentions e ++ []) ++ []) ++ (reads until_loop ++ [])) (reads until_loop)
        (test_reads e [] (until_loop ∷ []))
        (sub_both ((mentions e ++ []) ++ []) (reads until_loop ++ []) (reads until_loop)
        (sub_padded (mentions e) (reads until_loop) mentions_in) (sub_one (reads until_loop) (reads until_loop) (sub_itself (reads until_loop))));
    reads_back = λ x h. to_set (reads until_test) (((mentions e ++ []) ++ []) ++ (reads until_loop ++ [])) (test_reads e [] (until_loop ∷ [])) x
        (sub_right ((mentions e ++ []) ++ []) (reads until_loop ++ []) x (sub_left (reads until_loop) [] x h));
    writes_in = to_set (writes until_loop) (joined (map writes body)) until_writes;
    writes_next = of_set (writes until_test) (writes until_loop ++ []) (writes until_loop) (test_writes e [] (until_loop ∷ []))
        (sub_one (writes until_loop) (writes until_loop) (sub_itself (writes until_loop)));
    writes_back = λ x h. to_set (writes until_test) (writes until_loop ++ []) (test_writes e [] (until_loop ∷ [])) x
        (sub_left (writes until_loop) [] x h);
    first_in = is_sub (surface_of until_loop).writes (block_surface (map surface_of body)) until_first;
    first_back = sub_is (surface_of until_loop).writes (block_surface (map surface_of body)) (block_surface (map surface_of body)) until_first
        (sub_itself (block_surface (map surface_of body)));
    first_next = sub_is (surface_of until_test).writes ((surface_of until_loop).writes ++ (if (surface_of until_loop).instant then [] else []))
        (surface_of until_loop).writes (test_first e [] (until_loop ∷ []))
        (sub_both (surface_of until_loop).writes (if (surface_of until_loop).instant then [] else []) (surface_of until_loop).writes
        (sub_itself (surface_of until_loop).writes)
        (sub_if (surface_of until_loop).instant [] (surface_of until_loop).writes (sub_none (surface_of until_loop).writes)));
  })
    where
      and_any : (a : Bool) → (a && true) ≡ a
      and_any true = refl
      and_any false = refl

-- ---- a loop with its test before

or_yes : (a : Bool) → ((a || false) || true) ≡ true
or_yes true = refl
or_yes false = refl

turn_rests : (n loop : ℕ) → loop ≡ n → max (max (max n (max loop 0)) 0) 0 ≡ loop
turn_rests n loop is = omega arith

module _ (place : Place) (e : Expr) (body : List Stmt) where
  abbrev while_loop : Stmt
  while_loop = made_stmt place (StmtKind-F.While e body)

  abbrev while_test : Stmt
  while_test = made_if e (body ++ while_loop ∷ []) []

  while_reads : reads while_loop ≡ set_of (mentions e ++ joined (map reads body))
  while_reads = reads_at place (StmtKind-F.While e body)

  while_writes : writes while_loop ≡ set_of (joined (map writes body))
  while_writes = writes_at place (StmtKind-F.While e body)

  while_first : (surface_of while_loop).writes ≡ block_surface (map surface_of body)
  while_first = ap (λ surface. surface.writes) (surface_at place (StmtKind-F.While e body))

  -- what the arm of the test reads, writes, and writes before it pauses
  turn_reads : Sub (joined (map reads (body ++ while_loop ∷ []))) (mentions e ++ joined (map reads body))
  turn_reads =
      sub_is (joined (map reads (body ++ while_loop ∷ []))) (joined (map reads body) ++ (reads while_loop ++ [])) (mentions e ++ joined (map reads body))
      (paths_append reads body (while_loop ∷ []))
      (sub_both (joined (map reads body)) (reads while_loop ++ []) (mentions e ++ joined (map reads body))
      (sub_right (mentions e) (joined (map reads body)))
      (sub_one (reads while_loop) (mentions e ++ joined (map reads body))
      (of_set (reads while_loop) (mentions e ++ joined (map reads body)) (mentions e ++ joined (map reads body)) while_reads
      (sub_itself (mentions e ++ joined (map reads body))))))

  body_reads : Sub (joined (map reads body)) (joined (map reads (body ++ while_loop ∷ [])))
  body_reads x h =
      is_sub (joined (map reads (body ++ while_loop ∷ []))) (joined (map reads body) ++ (reads while_loop ++ []))
      (paths_append reads body (while_loop ∷ [])) x (sub_left (joined (map reads body)) (reads while_loop ++ []) x h)

  turn_writes : Sub (joined (map writes (body ++ while_loop ∷ []))) (joined (map writes body))
  turn_writes =
      sub_is (joined (map writes (body ++ while_loop ∷ []))) (joined (map writes body) ++ (writes while_loop ++ [])) (joined (map writes body))
      (paths_append writes body (while_loop ∷ []))
      (sub_both (joined (map writes body)) (writes while_loop ++ []) (joined (map writes body)) (sub_itself (joined (map writes body)))
      (sub_one (writes while_loop) (joined (map writes body))
      (of_set (writes while_loop) (joined (map writes body)) (joined (map writes body)) while_writes (sub_itself (joined (map writes body))))))

  body_writes : Sub (joined (map writes body)) (joined (map writes (body ++ while_loop ∷ [])))
  body_writes x h =
      is_sub (joined (map writes (body ++ while_loop ∷ []))) (joined (map writes body) ++ (writes while_loop ++ []))
      (paths_append writes body (while_loop ∷ [])) x (sub_left (joined (map writes body)) (writes while_loop ++ []) x h)

  abbrev first_of_body : List Static
  first_of_body = block_surface (map surface_of body)

  abbrev first_of_loop : List Static
  first_of_loop = (surface_of while_loop).writes ++ (if (surface_of while_loop).instant then [] else [])

  turn_first : Sub (block_surface (map surface_of (body ++ while_loop ∷ []))) first_of_body
  turn_first =
      sub_is (block_surface (map surface_of (body ++ while_loop ∷ []))) (first_of_body ++ (if is_instant_block body then first_of_loop else []))
      first_of_body (writes_first body (while_loop ∷ []))
      (sub_both first_of_body (if is_instant_block body then first_of_loop else []) first_of_body (sub_itself first_of_body)
      (sub_if (is_instant_block body) first_of_loop first_of_body
      (sub_both (surface_of while_loop).writes (if (surface_of while_loop).instant then [] else []) first_of_body
      (sub_is (surface_of while_loop).writes first_of_body first_of_body while_first (sub_itself first_of_body))
      (sub_if (surface_of while_loop).instant [] first_of_body (sub_none first_of_body)))))

  body_first : Sub first_of_body (block_surface (map surface_of (body ++ while_loop ∷ [])))
  body_first x h =
      is_sub (block_surface (map surface_of (body ++ while_loop ∷ []))) (first_of_body ++ (if is_instant_block body then first_of_loop else []))
      (writes_first body (while_loop ∷ [])) x (sub_left first_of_body (if is_instant_block body then first_of_loop else []) x h)

  pub while_turn : Alike while_loop while_test
  while_turn = record {
    ends = test_instant e (body ++ while_loop ∷ []) [] ∙ or_yes (is_instant_block (body ++ while_loop ∷ []))
        ∙ sym (instant_at place (StmtKind-F.While e body));
    rests = test_width e (body ++ while_loop ∷ []) [] ∙ ap (λ n. max (max n 0) 0) (width_append body (while_loop ∷ []))
        ∙ turn_rests (width body) (stmt_width while_loop) (width_at place (StmtKind-F.While e body));
    read = test_reads e (body ++ while_loop ∷ []) []
        ∙ one_set (((mentions e ++ joined (map reads (body ++ while_loop ∷ []))) ++ []) ++ []) (mentions e ++ joined (map reads body))
        (sub_padded (mentions e ++ joined (map reads (body ++ while_loop ∷ []))) (mentions e ++ joined (map reads body))
        (sub_both (mentions e) (joined (map reads (body ++ while_loop ∷ []))) (mentions e ++ joined (map reads body))
        (sub_left (mentions e) (joined (map reads body))) turn_reads))
        (λ x h. padded_sub (mentions e ++ joined (map reads (body ++ while_loop ∷ []))) x
        (sub_both (mentions e) (joined (map reads body)) (mentions e ++ joined (map reads (body ++ while_loop ∷ [])))
        (sub_left (mentions e) (joined (map reads (body ++ while_loop ∷ []))))
        (λ y there. sub_right (mentions e) (joined (map reads (body ++ while_loop ∷ []))) y (body_reads y there)) x h))
        ∙ sym while_reads;
    written = test_writes e (body ++ while_loop ∷ []) []
        ∙ one_set ((joined (map writes (body ++ while_loop ∷ [])) ++ []) ++ []) (joined (map writes body))
        (sub_padded (joined (map writes (body ++ while_loop ∷ []))) (joined (map writes body)) turn_writes)
        (λ x h. padded_sub (joined (map writes (body ++ while_loop ∷ []))) x (body_writes x h))
        ∙ sym while_writes;
    first = ap set_of (test_first e (body ++ while_loop ∷ []) [])
        ∙ one_set ((block_surface (map surface_of (body ++ while_loop ∷ [])) ++ []) ++ []) first_of_body
        (sub_padded (block_surface (map surface_of (body ++ while_loop ∷ []))) first_of_body turn_first)
        (λ x h. padded_sub (block_surface (map surface_of (body ++ while_loop ∷ []))) x (body_first x h))
        ∙ sym (ap set_of while_first);
  }
