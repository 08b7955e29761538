-- The iterator of tokens: its state, the tokens left of the current line, and the token that it gives next.
pub mod Start
pub mod Items
pub mod NextToken
pub mod Levels
pub mod PendingTokens
