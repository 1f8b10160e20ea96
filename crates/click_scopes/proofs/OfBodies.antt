-- Bodies and their scopes: bodies are nested (`NestedBodies`, `BodyBraces`), each in one place
-- (`OneBodyPlace`) and in some scope (`BodyScopes`). An element means a body with a lower index
-- than its scope (`EarlierBodies`). The walk over the scopes is in `ScopeWalk`.
pub mod BodyBraces
pub mod BodyScopes
pub mod EarlierBodies
pub mod NestedBodies
pub mod OneBodyPlace
pub mod ScopeWalk
