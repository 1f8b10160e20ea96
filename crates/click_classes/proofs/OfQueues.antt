-- Queues: the slots that hold the packets (`RingSlots`), which packet a queue drops (`QueueDrops`),
-- that it counts each packet (`QueueCounts`), and that it stays sound (`QueueSoundness`).
pub mod QueueCounts
pub mod QueueDrops
pub mod QueueSoundness
pub mod RingSlots
