-- How what several calls say of the bytes held goes together.
use Rattle.std.proofs.Common.{◌≡◌, ℕ, ◌+◌, ◌≤◌, ◌<◌, List, [], ◌++◌, take, drop, Option, Some, None, ap, sym, ◌∙◌, append_assoc}
use Rattle.std.proofs.Math.Seq.{take-add}
use Rattle.std.proofs.lemmas.List.{append-nil, take-take}
use Rattle.bl_io.specs.Held.{Appends}

pub Appends-nothing : (a : Option (List ℕ)) → Appends a [] a
Appends-nothing None = tt
Appends-nothing (Some bytes) = ap Some (sym (append-nil bytes))

pub Appends-trans : (a b c : Option (List ℕ)) (p q : List ℕ) → Appends a p b → Appends b q c → Appends a (p ++ q) c
Appends-trans None b c p q h k = tt
Appends-trans (Some bytes) b c p q h k =
    let more : Appends (Some (bytes ++ p)) q c = rw h at k in
    rw append_assoc at more

-- a front that was written, and the front of what follows it
pub Appends-more : (a b c : Option (List ℕ)) (bytes : List ℕ) (i m n : ℕ) → Appends a (take i bytes) b →
    Appends b (take n (take m (drop i bytes))) c → n ≤ m → Appends a (take (i + n) bytes) c
Appends-more a b c bytes i m n h k within =
    let more : Appends b (take n (drop i bytes)) c = rw take-take at k in
    rw (take-add i n bytes) (Appends-trans a b c (take i bytes) (take n (drop i bytes)) h more)
