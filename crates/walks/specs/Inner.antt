-- What the inner functions ask of what they are handed, and what they leave; no promise of a call.
--
--   Walk    the state of a loop, and its end, by what each effect brings
--   Ready   what they ask
pub mod Walk
pub mod Ready
