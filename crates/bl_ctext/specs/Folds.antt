-- What folds over the parts of expressions share.

-- arguments, expressions, calls, indices, places or steps, over what stands for each of the seven kinds of parts within them
abbrev pub OpenPart : Type 1
OpenPart = Type 0 → Type 0 → Type 0 → Type 0 → Type 0 → Type 0 → Type 0 → Type 0

-- an open part in which one type of thing stands for every part within it
abbrev pub EachIs : Type 0 → OpenPart → Type 0
EachIs A Of = Of A A A A A A A
