-- Lemmas about pushes and pulls as the definitions say them.
--
-- They are about where packet runs begin (`RunStarts`), their steps (`RunSteps`, `Crossings`,
-- `TeePushes`) and the ports that they reach (`RunPorts`). Others are about the crossings that they
-- cost (`PushCosts`), the depth that they need (`PushDepth`, `PullDepth`), the tasks of a round
-- (`RoundTasks`), and the first packet of a task (`TaskStarts`).
pub mod Crossings
pub mod PullDepth
pub mod PushCosts
pub mod PushDepth
pub mod RoundTasks
pub mod RunPorts
pub mod RunStarts
pub mod RunSteps
pub mod TeePushes
pub mod TaskStarts
