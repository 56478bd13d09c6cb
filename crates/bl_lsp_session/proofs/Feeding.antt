-- Bytes of a session, taken one after another.
use Rattle.std.proofs.Common.{◌≡◌, ℕ, ◌+◌, ◌<◌, List, [], ◌∷◌, ◌++◌, length, get_or, take, drop, Option, Some, None, IfSome, refl, subst, sym, ap, ◌∙◌}
use Rattle.std.proofs.lemmas.List.{append-nil, append_assoc, get_or_default, take-append-drop, take_more}
use Rattle.bl_tree.proofs.Basics.{drop_next}
use Rattle.bl_io.specs.Held.{Appends}
use Rattle.bl_io.specs.Left.{HandsOver}
use Rattle.bl_lsp.specs.Framing.{framing_after, at_head, says}
use Rattle.bl_lsp.specs.declared.framer.Taken.TheVariants as taken
use Rattle.bl_lsp_session.specs.Sessions.{FedUpTo, HasFed, HasRead, HasTaken, LeftBehind, Session, Serves, Stops, Takes, more, whole}
use Rattle.bl_lsp_session.specs.declared.serving.Ended.{Ended}
use Rattle.bl_lsp_session.specs.declared.serving.Server.{Server}
use Rattle.bl_lsp_session.specs.inner.Ends.{HasHeard}

pub Appends-none : (held : Option (List ℕ)) → Appends held [] held
Appends-none None = tt
Appends-none (Some bytes) = ap Some (sym (append-nil bytes))

Appends-joined : (a b c : Option (List ℕ)) (x y : List ℕ) → Appends a x b → Appends b y c → Appends a (x ++ y) c
Appends-joined None b c x y one other = tt
Appends-joined (Some bytes) b c x y one other = subst (λ b. Appends b y c) one other ∙ ap Some (append_assoc bytes x y)

pub fed-none : (server : Server) (held : Option (List ℕ)) → HasFed server [] server held held
fed-none server held = record { sent = []; session = (refl, refl); appends = Appends-none held }

-- one byte more
session-more : (a b c : Server) (read sent last : List ℕ) (byte : ℕ) → Session a read sent b → Takes b byte last c →
    Session a (read ++ byte ∷ []) (sent ++ last) c
session-more a b c [] sent last byte begun takes =
    (last, [], c, subst (λ s. Takes s byte last c) begun.1 takes, ap (λ l. l ++ last) begun.0 ∙ sym (append-nil last), (refl, refl))
session-more a b c (one ∷ read) sent last byte (first, later, mid, begun, is, rest) takes =
    (first, later ++ last, mid, begun, ap (λ l. l ++ last) is ∙ append_assoc first later last, session-more mid b c read later last byte rest takes)

fed-byte : (before mid behind : Server) (read : List ℕ) (byte : ℕ) (a b c : Option (List ℕ)) → HasFed before read mid a b →
    HasTaken mid byte behind b c → HasFed before (read ++ byte ∷ []) behind a c
fed-byte before mid behind read byte a b c fed step = record {
  sent = fed.sent ++ step.sent;
  session = session-more before mid behind read fed.sent step.sent byte fed.session step.takes;
  appends = Appends-joined a b c fed.sent step.sent fed.appends step.appends;
}

pub fed-next : (before mid behind : Server) (piece : List ℕ) (i : ℕ) (byte : ℕ) (a b c : Option (List ℕ)) → i < length piece →
    byte ≡ get_or piece i 0 → HasFed before (take i piece) mid a b → HasTaken mid byte behind b c →
    HasFed before (take (i + 1) piece) behind a c
fed-next before mid behind piece i byte a b c within is fed step =
    subst (λ front. HasFed before front behind a c) (sym (take_more piece i 0 within ∙ ap (λ x. take i piece ++ x ∷ []) (sym is)))
    (fed-byte before mid behind (take i piece) byte a b c fed step)

-- the session ends with the byte at an index
pub fed-up-to : (before mid : Server) (piece : List ℕ) (i : ℕ) (byte : ℕ) (a b : Option (List ℕ)) (how : Ended) → i < length piece →
    byte ≡ get_or piece i 0 → HasFed before (take i piece) mid a b → Stops mid byte how → FedUpTo before piece a how
fed-up-to before mid piece i byte a b how within is fed stops = record {
  read = take i piece;
  byte = byte;
  rest = drop (i + 1) piece;
  is = sym (take-append-drop i piece)
      ∙ ap (λ l. take i piece ++ l) (drop_next piece i byte within (is ∙ sym (get_or_default piece i byte 0 within)));
  last = mid;
  between = b;
  fed = fed;
  stops = stops;
}

-- a byte that completes nothing
pub taken-more : (before behind : Server) (byte : ℕ) (held : Option (List ℕ)) → says before.framer byte ≡ taken.More →
    behind.framer ≡ framing_after before.framer byte → behind.phase ≡ before.phase → HasTaken before byte behind held held
taken-more before behind byte held said framer phase =
    record { sent = []; takes = more said refl framer phase; appends = Appends-none held }

-- a byte that completes a message, which was heard
pub taken-whole : (before behind : Server) (byte : ℕ) (content : List ℕ) (held now : Option (List ℕ)) → says before.framer byte ≡ taken.Whole →
    content ≡ (framing_after before.framer byte).got → HasHeard before.phase content behind held now → HasTaken before byte behind held now
taken-whole before behind byte content held now said is done =
    record {
      sent = done.sent;
      takes = whole said (subst (λ c. Serves before.phase c done.sent behind.phase) is done.serves) done.framer;
      appends = done.appends;
    }

-- ---- pieces of the stream

session-joined : (a b c : Server) (read sent later told : List ℕ) → Session a read sent b → Session b later told c →
    Session a (read ++ later) (sent ++ told) c
session-joined a b c [] sent later told one other =
    subst (λ s. Session s later (sent ++ told) c) one.1 (subst (λ l. Session b later (l ++ told) c) (sym one.0) other)
session-joined a b c (byte ∷ read) sent later told (first, onward, mid, begun, is, rest) other =
    (first, onward ++ told, mid, begun, ap (λ l. l ++ told) is ∙ append_assoc first onward told, session-joined mid b c read onward later told rest other)

fed-joined : (a b c : Server) (read later : List ℕ) (x y z : Option (List ℕ)) → HasFed a read b x y → HasFed b later c y z →
    HasFed a (read ++ later) c x z
fed-joined a b c read later x y z one other = record {
  sent = one.sent ++ other.sent;
  session = session-joined a b c read one.sent later other.sent one.session other.session;
  appends = Appends-joined x y z one.sent other.sent one.appends other.appends;
}

left-joined : (read later : List ℕ) (x y z : Option (List ℕ)) → LeftBehind read x y → LeftBehind later y z → LeftBehind (read ++ later) x z
left-joined read later None y z one other = tt
left-joined read later (Some bytes) y z one other =
    let next = subst (λ y. LeftBehind later y z) one.2 other in
    (next.0, one.1 ∙ ap (λ rest. read ++ rest) next.1 ∙ sym (append_assoc read later next.0), next.2)

left-none : (left : Option (List ℕ)) → LeftBehind [] left left
left-none None = tt
left-none (Some bytes) = (bytes, refl, refl)

pub read-none : (server : Server) (left held : Option (List ℕ)) → HasRead server left server left held held
read-none server left held = record { piece = []; fed = fed-none server held; rest = left-none left }

pub read-more : (a b c : Server) (left there now x y z : Option (List ℕ)) → HasRead a left b there x y → HasRead b there c now y z →
    HasRead a left c now x z
read-more a b c left there now x y z one other = record {
  piece = one.piece ++ other.piece;
  fed = fed-joined a b c one.piece other.piece x y z one.fed other.fed;
  rest = left-joined one.piece other.piece left there now one.rest other.rest;
}

-- what is left behind the bytes that a call handed over
pub left-handed : (left now : Option (List ℕ)) (n : ℕ) (room : List ℕ) → HandsOver left n room now → LeftBehind (take n room) left now
left-handed None now n room handed = tt
left-handed (Some bytes) now n room handed =
    (drop n bytes, sym (take-append-drop n bytes) ∙ ap (λ front. front ++ drop n bytes) (sym handed.front), handed.rest)

-- a call that hands over nothing is at the end
pub at-stream-end : (left now : Option (List ℕ)) (n : ℕ) (room : List ℕ) → n ≡ 0 → HandsOver left n room now → IfSome left (λ bytes. bytes ≡ [])
at-stream-end None now n room none handed = tt
at-stream-end (Some bytes) now n room none handed = handed.at_end none
