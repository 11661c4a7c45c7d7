mod OneTable
pub mod PairsOnce
