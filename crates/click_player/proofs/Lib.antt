mod Belonging
mod Rings
